-- Numbered selections in order of their ranks, as numbered ranges of a text, and what settles them.
use Rattle.std.proofs.Common.{◌≡◌, ℕ, zero, suc, ◌+◌, ◌<◌, ◌≤◌, Bool, true, false, eqb, List, [], ◌∷◌, length, map, refl, sym, ap, subst, ◌∙◌, arith, inl, inr, ◌⊎◌, Some, None, eqb-true, eq-eqb, lt-ltb, cond, not}
use Rattle.std.specs.Prelude.{unwrap_or}
use Rattle.std.specs.List.{All, AllByRecursion, position, position_or_len}
use Rattle.std.specs.List.Sorted.{IsPermutation, IsNonDecreasingBy}
use Rattle.std.proofs.lemmas.Bool.Decides.{nat_tests}
use Rattle.std.proofs.lemmas.List.{length-map}
use Rattle.std.proofs.lemmas.List.Elements.{All-from_recursion, recursion_from_All}
use Rattle.std.proofs.lemmas.List.Sorted.{All-permutation, IsPermutation-map, IsPermutation-sym, length_permutation}
use Rattle.text_model.specs.declared.TheConstants.{MAX_SELECTIONS}
use Rattle.text_model.specs.declared.coords.Coord.{Coord}
use Rattle.text_model.specs.Coords.{is_at_most}
use Rattle.text_model.specs.Texts.{offset}
use Rattle.text_model.proofs.CoordLemmas.{same_coord, test_cases}
use Rattle.text_model.proofs.PlaceLemmas.{is_at_most-offset, leb_true}
use Rattle.list_model.specs.Ranges.{Range}
use Rattle.list_model.specs.Settled.{SomeOf, HoldsAtPlace}
use Rattle.list_model.proofs.ListLemmas.{all_map, place_map, place_weaker, below_of_place, some_weaker}
use Rattle.list_model.proofs.ReorderLemmas.{IsReordered, settled-reordered, Counted, count_from, range_alone, Precedes, IsRanked, ranked-reordered, ranked-ordered, has-permuted}
use Rattle.selection_set.specs.declared.sel.Sel.{Sel}
use Rattle.selection_set.specs.declared.order.Numbered.{Numbered}
use Rattle.selection_set.specs.Inside.{range_of, IsInside}
use Rattle.selection_set.specs.Listing.{Listed, IsList, ranges_of, AreInside, LowsDontFall, IsSettledIn}
use Rattle.selection_set.specs.Numbering.{numbered_from, rank, HasSmallNumbers}

-- what is known of a sorted list
pub record IsOrderOf (list : List Sel) (main : ℕ) (ms : List Numbered) : Type 0 where
  pub main_is : main < length list
  pub few : length list ≤ MAX_SELECTIONS
  pub permuted : IsPermutation (numbered_from 0 list) ms
  pub order : IsNonDecreasingBy rank ms
  pub small : All HasSmallNumbers (numbered_from 0 list)

abbrev pub sel_alone : Numbered → Sel
sel_alone n = n.sel

counted : List ℕ → Numbered → Counted
counted text n = record { range = range_of text n.sel; number = n.number }

counted_from : (text : List ℕ) (k : ℕ) (list : List Sel) → map (counted text) (numbered_from k list) ≡ count_from k (ranges_of text list)
unfolding counted
counted_from text k [] = refl
counted_from text k (s ∷ ss) = ap (λ t. record { range = range_of text s; number = k } ∷ t) (counted_from text (k + 1) ss)

ranges_alone : (text : List ℕ) (ms : List Numbered) → map range_alone (map (counted text) ms) ≡ ranges_of text (map sel_alone ms)
unfolding counted
ranges_alone text [] = refl
ranges_alone text (m ∷ ms) = ap (λ t. range_of text m.sel ∷ t) (ranges_alone text ms)

length_numbered : (k : ℕ) (list : List Sel) → length (numbered_from k list) ≡ length list
length_numbered k [] = refl
length_numbered k (s ∷ ss) = ap suc (length_numbered (k + 1) ss)

all_numbered : (P : Sel → Type 0) (k : ℕ) (list : List Sel) → AllByRecursion P list → AllByRecursion (λ (n : Numbered). P n.sel) (numbered_from k list)
all_numbered P k [] h = tt
all_numbered P k (s ∷ ss) h = (h.0, all_numbered P (k + 1) ss h.1)

-- of a list that doesn't fall: the first one is at most each later one
split_order : {X : Type 0} (f : X → ℕ) (x : X) (xs : List X) → IsNonDecreasingBy f (x ∷ xs) → AllByRecursion (λ y. f x ≤ f y) xs × IsNonDecreasingBy f xs
split_order f x xs h =
    (recursion_from_All (λ y. f x ≤ f y) xs (λ k d l. h 0 (suc k) d (omega arith) (omega arith)), λ i j d l k. h (suc i) (suc j) d (omega arith) (omega arith))

at_most_lines : (a b : Coord) → is_at_most a b ≡ true → (a.line < b.line) ⊎ ((a.line ≡ b.line) × (a.column ≤ b.column))
at_most_lines a b e = grind (arith, nat_tests)

ways : (a b : ℕ) → (a < b) ⊎ (b ≤ a)
ways a b = grind arith

-- one that doesn't begin later but has no greater rank begins at the same place, and has no greater number
same_begin : (a b : Numbered) → HasSmallNumbers a → HasSmallNumbers b → rank a ≤ rank b → (b.sel.low.line < a.sel.low.line) ⊎ ((b.sel.low.line ≡ a.sel.low.line) × (b.sel.low.column ≤ a.sel.low.column)) → (a.sel.low ≡ b.sel.low) × (a.number ≤ b.number)
same_begin a b sa sb r (inl lt) = absurd (omega (arith, sa.column, sa.number, sb.column, sb.number))
same_begin a b sa sb r (inr w) =
    (same_coord a.sel.low b.sel.low (sym w.0) (omega (arith, w.0, w.1, sa.column, sa.number, sb.column, sb.number)), omega (arith, w.0, w.1, sa.column, sa.number, sb.column, sb.number))

precedes : (text : List ℕ) (a b : Numbered) → HasSmallNumbers a → HasSmallNumbers b → IsInside text a.sel → IsInside text b.sel → rank a ≤ rank b → Precedes (counted text a) (counted text b)
unfolding counted
precedes text a b sa sb ia ib r =
    elim (ways (offset text a.sel.low) (offset text b.sel.low)) [
      | inl lt ↦ inl lt
      | inr le ↦ (let w : (a.sel.low ≡ b.sel.low) × (a.number ≤ b.number) = same_begin a b sa sb r (at_most_lines b.sel.low a.sel.low (is_at_most-offset text b.sel.low a.sel.low (inl ib.low) (inl ia.low) ∙ leb_true (offset text b.sel.low) (offset text a.sel.low) le)) in
          inr (ap (offset text) w.0, w.1))
    ]

ranked : (text : List ℕ) (ms : List Numbered) → IsNonDecreasingBy rank ms → AllByRecursion HasSmallNumbers ms → AllByRecursion (λ (n : Numbered). IsInside text n.sel) ms → IsRanked (map (counted text) ms)
ranked text [] h s i = tt
ranked text (m ∷ ms) h s i =
    let w : AllByRecursion (λ y. rank m ≤ rank y) ms × IsNonDecreasingBy rank ms = split_order rank m ms h in
    (all_map (Precedes (counted text m)) (counted text) ms (each ms w.0 s.1 i.1), ranked text ms w.1 s.1 i.1)
  where
    each : (ns : List Numbered) → AllByRecursion (λ y. rank m ≤ rank y) ns → AllByRecursion HasSmallNumbers ns → AllByRecursion (λ (n : Numbered). IsInside text n.sel) ns → AllByRecursion (λ n. Precedes (counted text m) (counted text n)) ns
    each [] r t j = tt
    each (n ∷ ns) r t j = (precedes text m n s.0 t.0 i.0 j.0 r.0, each ns r.1 t.1 j.1)

-- the first that passes a test stands where `position` says
one_more : (n : ℕ) → 1 + n ≡ suc n
one_more n = omega arith

not_both : false ≡ true → ⊥
not_both k = cc

at_position_or_len : {X : Type 0} (p : X → Bool) (xs : List X) → SomeOf (λ x. p x ≡ true) xs → HoldsAtPlace (λ x. p x ≡ true) xs (position_or_len p xs)
at_position_or_len p [] h = absurd h
at_position_or_len {X} p (x ∷ xs) h =
    elim (test_cases (p x)) [
      | inl e ↦ subst (λ n. HoldsAtPlace (λ y. p y ≡ true) (x ∷ xs) n) (sym (ap (λ b. cond (not b) (1 + position_or_len p xs) 0) e)) e
      | inr e ↦ subst (λ n. HoldsAtPlace (λ y. p y ≡ true) (x ∷ xs) n) (sym (ap (λ b. cond (not b) (1 + position_or_len p xs) 0) e ∙ one_more (position_or_len p xs))) (at_position_or_len p xs (later e h))
    ]
  where
    later : p x ≡ false → SomeOf (λ y. p y ≡ true) (x ∷ xs) → SomeOf (λ y. p y ≡ true) xs
    later e (inl k) = absurd (not_both (sym e ∙ k))
    later e (inr k) = k

at_position : {X : Type 0} (p : X → Bool) (xs : List X) → SomeOf (λ x. p x ≡ true) xs → HoldsAtPlace (λ x. p x ≡ true) xs (unwrap_or (position p xs) 0)
at_position {X} p xs h =
    let there : HoldsAtPlace (λ x. p x ≡ true) xs (position_or_len p xs) = at_position_or_len p xs h in
    let below : position_or_len p xs < length xs = below_of_place xs (position_or_len p xs) (place_weaker (λ x. p x ≡ true) (λ _. Unit {0}) (λ x k. tt) xs (position_or_len p xs) there) in
    let e : unwrap_or (position p xs) 0 ≡ position_or_len p xs = ap (λ b. unwrap_or (cond b (Some (position_or_len p xs)) None) 0) (lt-ltb (position_or_len p xs) (length xs) below) in
    subst (λ n. HoldsAtPlace (λ x. p x ≡ true) xs n) (sym e) there

some_number : (k j : ℕ) (list : List Sel) → j < length list → SomeOf (λ (n : Numbered). n.number ≡ k + j) (numbered_from k list)
some_number k j [] h = absurd (omega arith)
some_number k zero (s ∷ ss) h = inl (omega arith)
some_number k (suc j) (s ∷ ss) h = inr (some_weaker (λ (n : Numbered). n.number ≡ k + 1 + j) (λ (n : Numbered). n.number ≡ k + suc j) (λ n e. omega arith) (numbered_from (k + 1) ss) (some_number (k + 1) j ss (omega arith)))

-- what some of a list is, some of the list in another order is
some-permuted : {X : Type 0} (P : X → Type 0) (xs ys : List X) → IsPermutation xs ys → SomeOf P xs → SomeOf P ys
some-permuted {X} P xs ys p h =
    let Q : X → Type 0 = λ x. SomeOf (λ y. y ≡ x) ys in
    let all : AllByRecursion Q xs = recursion_from_All Q xs (All-permutation Q ys xs (IsPermutation-sym xs ys p) (All-from_recursion Q ys (each ys (λ x m. m)))) in
    taken xs all h
  where
    each : (zs : List X) → ((x : X) → SomeOf (λ y. y ≡ x) zs → SomeOf (λ y. y ≡ x) ys) → AllByRecursion (λ x. SomeOf (λ y. y ≡ x) ys) zs
    each [] f = tt
    each (z ∷ zs) f = (f z (inl refl), each zs (λ x m. f x (inr m)))

    taken : (zs : List X) → AllByRecursion (λ x. SomeOf (λ y. y ≡ x) ys) zs → SomeOf P zs → SomeOf P ys
    taken [] a k = absurd k
    taken (z ∷ zs) a (inl k) = some_weaker (λ y. y ≡ z) P (λ y e. subst P (sym e) k) ys a.0
    taken (z ∷ zs) a (inr k) = taken zs a.1 k

abbrev pub main_place : ℕ → List Numbered → ℕ
main_place main ms = unwrap_or (position (λ (n : Numbered). eqb n.number main) ms) 0

main_there : (list : List Sel) (main : ℕ) (ms : List Numbered) → IsOrderOf list main ms → HoldsAtPlace (λ (n : Numbered). n.number ≡ main) ms (main_place main ms)
main_there list main ms h =
    place_weaker (λ (n : Numbered). eqb n.number main ≡ true) (λ (n : Numbered). n.number ≡ main) (λ n e. eqb-true n.number main e) ms (main_place main ms)
    (at_position (λ (n : Numbered). eqb n.number main) ms (some-permuted (λ (n : Numbered). eqb n.number main ≡ true) (numbered_from 0 list) ms h.permuted (some_weaker (λ (n : Numbered). n.number ≡ 0 + main) (λ (n : Numbered). eqb n.number main ≡ true) (λ n e. eq-eqb n.number main (omega arith)) (numbered_from 0 list) (some_number 0 main list h.main_is))))

-- the sorted selections may be kept, with the main one
pub order-list : (list : List Sel) (main : ℕ) (ms : List Numbered) → IsOrderOf list main ms → IsList (map sel_alone ms) (main_place main ms)
order-list list main ms h =
    let place : main_place main ms < length ms = below_of_place ms (main_place main ms) (place_weaker (λ (n : Numbered). n.number ≡ main) (λ _. Unit {0}) (λ n k. tt) ms (main_place main ms) (main_there list main ms h)) in
    let many : length ms ≡ length list = length_permutation (numbered_from 0 list) ms h.permuted ∙ length_numbered 0 list in
    record { main_is = omega (arith, length-map ms sel_alone); few = omega (arith, length-map ms sel_alone, h.few) }

pub order-length : (list : List Sel) (main : ℕ) (ms : List Numbered) → IsOrderOf list main ms → length ms ≡ length list
order-length list main ms h = length_permutation (numbered_from 0 list) ms h.permuted ∙ length_numbered 0 list

numbers_there : (text : List ℕ) (main : ℕ) (ns : List Numbered) (n : ℕ) → HoldsAtPlace (λ (m : Numbered). m.number ≡ main) ns n → HoldsAtPlace (λ (c : Counted). c.number ≡ main) (map (counted text) ns) n
unfolding counted
numbers_there text main ns n k = place_map (λ (c : Counted). c.number ≡ main) (counted text) ns n k

-- and what settles them settles the list
pub order-settles : (list : List Sel) (main : ℕ) (ms : List Numbered) (s : Listed) (text : List ℕ) → IsOrderOf list main ms → AreInside text list
    → (AreInside text (map sel_alone ms) → LowsDontFall (ranges_of text (map sel_alone ms)) → IsSettledIn text (ranges_of text (map sel_alone ms)) (main_place main ms) s)
    → IsSettledIn text (ranges_of text list) main s
order-settles list main ms s text h i settles =
    let inside : AllByRecursion (λ (n : Numbered). IsInside text n.sel) ms = recursion_from_All (λ (n : Numbered). IsInside text n.sel) ms (All-permutation (λ (n : Numbered). IsInside text n.sel) (numbered_from 0 list) ms h.permuted (All-from_recursion (λ (n : Numbered). IsInside text n.sel) (numbered_from 0 list) (all_numbered (IsInside text) 0 list i))) in
    let small : AllByRecursion HasSmallNumbers ms = recursion_from_All HasSmallNumbers ms (All-permutation HasSmallNumbers (numbered_from 0 list) ms h.permuted h.small) in
    let in_order : IsRanked (map (counted text) ms) = ranked text ms h.order small inside in
    let same : map (counted text) (numbered_from 0 list) ≡ count_from 0 (ranges_of text list) = counted_from text 0 list in
    let alone : map range_alone (map (counted text) ms) ≡ ranges_of text (map sel_alone ms) = ranges_alone text ms in
    let moved : IsPermutation (count_from 0 (ranges_of text list)) (map (counted text) ms) = subst (λ t. IsPermutation t (map (counted text) ms)) same (IsPermutation-map (counted text) (numbered_from 0 list) ms h.permuted) in
    let reordered : IsReordered (ranges_of text list) main (map range_alone (map (counted text) ms)) (main_place main ms) = ranked-reordered (ranges_of text list) main (map (counted text) ms) (main_place main ms) in_order (has-permuted (map (counted text) ms) (count_from 0 (ranges_of text list)) (IsPermutation-sym (count_from 0 (ranges_of text list)) (map (counted text) ms) moved)) (has-permuted (count_from 0 (ranges_of text list)) (map (counted text) ms) moved) (numbers_there text main ms (main_place main ms) (main_there list main ms h)) in
    let done : IsSettledIn text (ranges_of text (map sel_alone ms)) (main_place main ms) s = settles (all_map (IsInside text) sel_alone ms inside) (subst LowsDontFall alone (ranked-ordered (map (counted text) ms) in_order)) in
    record {
      inside = done.inside;
      settled = settled-reordered (ranges_of text list) (ranges_of text (map sel_alone ms)) main (main_place main ms) (ranges_of text s.list) s.main (same_order alone reordered) done.settled;
    }
  where
    same_order : {xs ys : List Range} → xs ≡ ys → IsReordered (ranges_of text list) main xs (main_place main ms) → IsReordered (ranges_of text list) main ys (main_place main ms)
    same_order {xs} {ys} e r = subst (λ (t : List Range). IsReordered (ranges_of text list) main t (main_place main ms)) e r
