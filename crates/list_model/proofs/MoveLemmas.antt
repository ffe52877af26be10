-- Lists in order moved by maps that keep the order: once for all, or settled at each step.
use Rattle.std.proofs.Common.{◌≡◌, ℕ, zero, suc, ◌<◌, ◌≤◌, cond, List, [], ◌∷◌, ◌++◌, map, refl, sym, ap, ap₂, subst, ◌∙◌, arith, inl, inr, leb-true}
use Rattle.std.specs.List.{AllByRecursion}
use Rattle.text_model.specs.Changes.{Move}
use Rattle.text_model.specs.Mapping.{shifted}
use Rattle.text_model.proofs.PlaceLemmas.{leb_true, leb_false}
use Rattle.text_model.proofs.MappingLemmas.{shifted-mono}
use Rattle.list_model.specs.Ranges.{Range, Selected, IsRange}
use Rattle.list_model.specs.Settling.{sweep, sweep_place, joined_range, ranges, placed, sorted, slot, past_slot, sorted_place, swept, swept_place, settled, each_settled, carried}
use Rattle.list_model.specs.Settled.{HoldsAtPlace, Holds, AreApart, IsSettled, IsSettledList}
use Rattle.list_model.specs.Moving.{all_shifted, IsMovedAtEach, moved_at_once, IsMove}
use Rattle.list_model.proofs.ListLemmas.{all_weaker, place_weaker, all_map, place_map, place_of_below, below_of_place}
use Rattle.list_model.proofs.SweepLemmas.{JoinsWell, GoesAlong, sweep-apart, place-apart, carry_swept, carry_place}
use Rattle.list_model.proofs.SettledLemmas.{IsOrdered, joined_cases, joined_holds_second}
use Rattle.list_model.proofs.SortLemmas.{placed-before, settled-settles}
use Rattle.list_model.proofs.UniqueLemmas.{same_range, settled-unique}

-- ranges join well
pub ranges_join : JoinsWell ranges
ranges_join = record {
  later = λ a b c. refl;
  longer = λ a b c e. leb_true c.low (joined_range a b).high (omega (arith, leb-true c.low b.high e, joined_holds_second a b));
  assoc = λ a b c. same_range (joined_range (joined_range a b) c) (joined_range a (joined_range b c)) refl (highs a b c) refl refl;
}
  where
    highs : (a b c : Range) → (joined_range (joined_range a b) c).high ≡ (joined_range a (joined_range b c)).high
    highs a b c =
        elim (joined_cases a b) [
          | inl u ↦ elim (joined_cases (joined_range a b) c) [
            | inl v ↦ elim (joined_cases b c) [
              | inl w ↦ elim (joined_cases a (joined_range b c)) [ inl x ↦ omega (arith, u.0, u.1, v.0, v.1, w.0, w.1, x.0, x.1) | inr x ↦ omega (arith, u.0, u.1, v.0, v.1, w.0, w.1, x.0, x.1) ]
              | inr w ↦ elim (joined_cases a (joined_range b c)) [ inl x ↦ omega (arith, u.0, u.1, v.0, v.1, w.0, w.1, x.0, x.1) | inr x ↦ omega (arith, u.0, u.1, v.0, v.1, w.0, w.1, x.0, x.1) ]
            ]
            | inr v ↦ elim (joined_cases b c) [
              | inl w ↦ elim (joined_cases a (joined_range b c)) [ inl x ↦ omega (arith, u.0, u.1, v.0, v.1, w.0, w.1, x.0, x.1) | inr x ↦ omega (arith, u.0, u.1, v.0, v.1, w.0, w.1, x.0, x.1) ]
              | inr w ↦ elim (joined_cases a (joined_range b c)) [ inl x ↦ omega (arith, u.0, u.1, v.0, v.1, w.0, w.1, x.0, x.1) | inr x ↦ omega (arith, u.0, u.1, v.0, v.1, w.0, w.1, x.0, x.1) ]
            ]
          ]
          | inr u ↦ elim (joined_cases (joined_range a b) c) [
            | inl v ↦ elim (joined_cases b c) [
              | inl w ↦ elim (joined_cases a (joined_range b c)) [ inl x ↦ omega (arith, u.0, u.1, v.0, v.1, w.0, w.1, x.0, x.1) | inr x ↦ omega (arith, u.0, u.1, v.0, v.1, w.0, w.1, x.0, x.1) ]
              | inr w ↦ elim (joined_cases a (joined_range b c)) [ inl x ↦ omega (arith, u.0, u.1, v.0, v.1, w.0, w.1, x.0, x.1) | inr x ↦ omega (arith, u.0, u.1, v.0, v.1, w.0, w.1, x.0, x.1) ]
            ]
            | inr v ↦ elim (joined_cases b c) [
              | inl w ↦ elim (joined_cases a (joined_range b c)) [ inl x ↦ omega (arith, u.0, u.1, v.0, v.1, w.0, w.1, x.0, x.1) | inr x ↦ omega (arith, u.0, u.1, v.0, v.1, w.0, w.1, x.0, x.1) ]
              | inr w ↦ elim (joined_cases a (joined_range b c)) [ inl x ↦ omega (arith, u.0, u.1, v.0, v.1, w.0, w.1, x.0, x.1) | inr x ↦ omega (arith, u.0, u.1, v.0, v.1, w.0, w.1, x.0, x.1) ]
            ]
          ]
        ]

-- a map that keeps the order
abbrev pub KeepsOrder : (ℕ → ℕ) → Type 0
KeepsOrder f = (a b : ℕ) → a ≤ b → f a ≤ f b

pub carried_goes_along : (f : ℕ → ℕ) → KeepsOrder f → GoesAlong ranges (carried f)
carried_goes_along f k = record {
  due = λ a b e. leb_true (f b.low) (f a.high) (k b.low a.high (leb-true b.low a.high e));
  join = λ a b. same_range (carried f (joined_range a b)) (joined_range (carried f a) (carried f b)) refl (highs a b) refl refl;
}
  where
    highs : (a b : Range) → f (joined_range a b).high ≡ (joined_range (carried f a) (carried f b)).high
    highs a b =
        elim (joined_cases a b) [
          | inl u ↦ elim (joined_cases (carried f a) (carried f b)) [
            | inl v ↦ ap f u.0 ∙ sym v.0
            | inr v ↦ absurd (omega (arith, k a.high b.high u.1, v.1))
          ]
          | inr u ↦ elim (joined_cases (carried f a) (carried f b)) [
            | inl v ↦ ap f u.0 ∙ omega (arith, k b.high a.high (omega (arith, u.1)), v.0, v.1)
            | inr v ↦ ap f u.0 ∙ sym v.0
          ]
        ]

-- what is apart is in order
pub apart-ordered : (xs : List Range) → AllByRecursion IsRange xs → AreApart xs → IsOrdered xs
apart-ordered [] r h = tt
apart-ordered (x ∷ xs) r h = (all_weaker (λ s. x.high < s.low) (λ s. x.low ≤ s.low) (λ s l. omega (arith, r.0)) xs h.0, apart-ordered xs r.1 h.1)

pub ordered-map : (f : ℕ → ℕ) → KeepsOrder f → (xs : List Range) → IsOrdered xs → IsOrdered (map (carried f) xs)
ordered-map f k [] h = tt
ordered-map f k (x ∷ xs) h = (all_map (λ s. f x.low ≤ s.low) (carried f) xs (all_weaker (λ s. x.low ≤ s.low) (λ s. f x.low ≤ f s.low) (λ s l. k x.low s.low l) xs h.0), ordered-map f k xs h.1)

pub ranges-map : (f : ℕ → ℕ) → KeepsOrder f → (xs : List Range) → AllByRecursion IsRange xs → AllByRecursion IsRange (map (carried f) xs)
ranges-map f k xs h = all_map IsRange (carried f) xs (all_weaker IsRange (λ s. f s.low ≤ f s.high) (λ s l. k s.low s.high l) xs h)

-- a list in order is not changed by sorting
pub sorted-ordered : (xs : List Range) → IsOrdered xs → sorted xs ≡ xs
sorted-ordered [] h = refl
sorted-ordered (x ∷ []) h = refl
sorted-ordered (x ∷ y ∷ ys) h = ap (placed x) (sorted-ordered (y ∷ ys) h.1) ∙ placed-before x y ys (leb_true x.low y.low h.0.0)

slot-first : (x : Range) (xs : List Range) → AllByRecursion (λ s. x.low ≤ s.low) xs → slot x xs ≡ 0
slot-first x [] h = refl
slot-first x (y ∷ ys) h = ap (λ v. cond v 0 (suc (slot x ys))) (leb_true x.low y.low h.0)

pub sorted_place-ordered : (xs : List Range) (n : ℕ) → IsOrdered xs → HoldsAtPlace (λ _. Unit {0}) xs n → sorted_place xs n ≡ n
sorted_place-ordered [] n h in' = absurd in'
sorted_place-ordered (x ∷ xs) zero h in' = ap (slot x) (sorted-ordered xs h.1) ∙ slot-first x xs h.0
sorted_place-ordered (x ∷ xs) (suc n) h in' =
    ap₂ past_slot (ap (slot x) (sorted-ordered xs h.1) ∙ slot-first x xs h.0) (sorted_place-ordered xs n h.1 in') ∙ ap (λ v. cond v n (suc n)) (leb_false (suc n) 0 (omega arith))

-- so settling a list in order is its sweep
pub settled-ordered : (xs : List Range) (n : ℕ) → IsOrdered xs → HoldsAtPlace (λ _. Unit {0}) xs n → settled (record { list = xs; main = n }) ≡ record { list = swept xs; main = swept_place xs n }
settled-ordered xs n h in' =
    let P : List Range → ℕ → Selected = λ l m. record { list = swept l; main = swept_place l m } in
    ap₂ P (sorted-ordered xs h) (sorted_place-ordered xs n h in')

-- what is apart stays
pub sweep-stays : (c : Range) (ss : List Range) → AreApart (c ∷ ss) → sweep ranges c ss ≡ c ∷ ss
sweep-stays c [] h = refl
sweep-stays c (s ∷ ss) h = sweep-apart ranges c s ss (leb_false s.low c.high h.0.0) ∙ ap (λ t. c ∷ t) (sweep-stays s ss h.1)

pub place-stays : (c : Range) (ss : List Range) (n : ℕ) → AreApart (c ∷ ss) → HoldsAtPlace (λ _. Unit {0}) (c ∷ ss) n → sweep_place ranges c ss n ≡ n
place-stays c ss zero h in' = refl
place-stays c [] (suc n) h in' = absurd in'
place-stays c (s ∷ ss) (suc n) h in' = place-apart ranges c s ss n (leb_false s.low c.high h.0.0) ∙ ap (λ m. suc m) (place-stays s ss n h.1 in')

-- a settled list is its own settled list
pub settled-settled : (s : Selected) → IsSettledList s → settled s ≡ s
settled-settled s h = settled-ordered s.list s.main (apart-ordered s.list h.ranges h.apart) (place_of_below s.list s.main h.main_is) ∙ stays s.list s.main h.apart (place_of_below s.list s.main h.main_is)
  where
    stays : (xs : List Range) (n : ℕ) → AreApart xs → HoldsAtPlace (λ _. Unit {0}) xs n → (let t : Selected = record { list = swept xs; main = swept_place xs n } in t) ≡ record { list = xs; main = n }
    stays [] n a in' = absurd in'
    stays (c ∷ ss) n a in' = let P : List Range → ℕ → Selected = λ l m. record { list = l; main = m } in ap₂ P (sweep-stays c ss a) (place-stays c ss n a in')

pub map_twice : (f g : ℕ → ℕ) (xs : List Range) → map (carried g) (map (carried f) xs) ≡ map (carried (λ o. g (f o))) xs
map_twice f g [] = refl
map_twice f g (x ∷ xs) = ap (λ t. carried (λ o. g (f o)) x ∷ t) (map_twice f g xs)

-- the place of something, and where a settled list has its main one
in_place : (P : Range → Type 0) (xs : List Range) (n : ℕ) → HoldsAtPlace P xs n → HoldsAtPlace (λ _. Unit {0}) xs n
in_place P xs n h = place_weaker P (λ _. Unit {0}) (λ x k. tt) xs n h

pub is_settled_list : (xs ys : List Range) (n p : ℕ) → IsSettled xs n ys p → IsSettledList (record { list = ys; main = p })
is_settled_list xs ys n p h = record { ranges = h.some; apart = h.apart; main_is = below_of_place ys p (main_in xs n h.holds_main) }
  where
    main_in : (zs : List Range) (m : ℕ) → HoldsAtPlace (λ s. HoldsAtPlace (λ r. Holds r s) ys p) zs m → HoldsAtPlace (λ _. Unit {0}) ys p
    main_in [] m k = absurd k
    main_in (z ∷ zs) zero k = in_place (λ r. Holds r z) ys p k
    main_in (z ∷ zs) (suc m) k = main_in zs m k

-- a settled list, mapped and settled, is the settled list of the mapped one
pub each_settled-settles : (f : ℕ → ℕ) → KeepsOrder f → (s : Selected) → IsSettledList s → IsSettled (map (carried f) s.list) s.main (each_settled (carried f) s).list (each_settled (carried f) s).main
each_settled-settles f k s h =
    settled-settles (record { list = map (carried f) s.list; main = s.main }) (ranges-map f k s.list h.ranges) (place_map (λ _. Unit {0}) (carried f) s.list s.main (place_of_below s.list s.main h.main_is))

pub each_settled-swept : (f : ℕ → ℕ) → KeepsOrder f → (s : Selected) → IsSettledList s → each_settled (carried f) s ≡ record { list = swept (map (carried f) s.list); main = swept_place (map (carried f) s.list) s.main }
each_settled-swept f k s h =
    settled-ordered (map (carried f) s.list) s.main (ordered-map f k s.list (apart-ordered s.list h.ranges h.apart)) (place_map (λ _. Unit {0}) (carried f) s.list s.main (place_of_below s.list s.main h.main_is))

-- mapping and settling twice is mapping twice and settling once
pub each_settled-twice : (f g : ℕ → ℕ) → KeepsOrder f → KeepsOrder g → (s : Selected) → IsSettledList s → each_settled (carried g) (each_settled (carried f) s) ≡ each_settled (carried (λ o. g (f o))) s
each_settled-twice f g k l s h =
    let u : Selected = each_settled (carried f) s in
    let settles : IsSettled (map (carried f) s.list) s.main u.list u.main = each_settled-settles f k s h in
    let both : KeepsOrder (λ o. g (f o)) = (λ a b e. l (f a) (f b) (k a b e)) in
    each_settled-swept g l u (is_settled_list (map (carried f) s.list) u.list s.main u.main settles) ∙ ap (λ (t : Selected). once t) (each_settled-swept f k s h) ∙ swept_twice s.list s.main ∙ sym (each_settled-swept (λ o. g (f o)) both s h)
  where
    once : Selected → Selected
    once t = record { list = swept (map (carried g) t.list); main = swept_place (map (carried g) t.list) t.main }

    swept_twice : (xs : List Range) (n : ℕ) → once (record { list = swept (map (carried f) xs); main = swept_place (map (carried f) xs) n }) ≡ record { list = swept (map (carried (λ o. g (f o))) xs); main = swept_place (map (carried (λ o. g (f o))) xs) n }
    swept_twice [] n = refl
    swept_twice (x ∷ xs) n =
        let along : GoesAlong ranges (carried g) = carried_goes_along g l in
        let P : List Range → ℕ → Selected = λ ys m. record { list = ys; main = m } in
        ap₂ P (carry_swept ranges ranges_join (carried g) along (carried f x) (map (carried f) xs) ∙ ap (sweep ranges (carried (λ o. g (f o)) x)) (map_twice f g xs)) (carry_place ranges ranges_join (carried g) along (carried f x) (map (carried f) xs) n ∙ ap (λ ys. sweep_place ranges (carried (λ o. g (f o)) x) ys n) (map_twice f g xs))

-- all changes keep the order
pub shifted-keeps : (m : Move) → IsMove m → KeepsOrder (shifted m)
shifted-keeps m h a b e = shifted-mono m a b h e

pub all_shifted-keeps : (ms : List Move) → AllByRecursion IsMove ms → KeepsOrder (all_shifted ms)
all_shifted-keeps [] h a b e = e
all_shifted-keeps (m ∷ ms) h a b e = all_shifted-keeps ms h.1 (shifted m a) (shifted m b) (shifted-keeps m h.0 a b e)

pub all_shifted-append : (ms ns : List Move) (o : ℕ) → all_shifted (ms ++ ns) o ≡ all_shifted ns (all_shifted ms o)
all_shifted-append [] ns o = refl
all_shifted-append (m ∷ ms) ns o = all_shifted-append ms ns (shifted m o)

-- a settled list settled at each change is what it is when it is settled once
pub moved_at_once-each : (ms : List Move) (s : Selected) → AllByRecursion IsMove ms → IsSettledList s → IsMovedAtEach ms s (moved_at_once ms s)
moved_at_once-each [] s a h = sym (map_same s.list s.main ∙ settled-settled s h)
  where
    same_each : (xs : List Range) → map (carried (λ o. o)) xs ≡ xs
    same_each [] = refl
    same_each (x ∷ xs) = ap (λ t. x ∷ t) (same_each xs)

    map_same : (xs : List Range) (n : ℕ) → settled (record { list = map (carried (λ o. o)) xs; main = n }) ≡ settled (record { list = xs; main = n })
    map_same xs n = ap (λ t. settled (record { list = t; main = n })) (same_each xs)
moved_at_once-each (m ∷ ms) s a h =
    let u : Selected = each_settled (carried (shifted m)) s in
    let settles : IsSettled (map (carried (shifted m)) s.list) s.main u.list u.main = each_settled-settles (shifted m) (shifted-keeps m a.0) s h in
    let twice : moved_at_once ms u ≡ moved_at_once (m ∷ ms) s = each_settled-twice (shifted m) (all_shifted ms) (shifted-keeps m a.0) (all_shifted-keeps ms a.1) s h in
    (u, settles, subst (λ (t : Selected). IsMovedAtEach ms u t) twice (moved_at_once-each ms u a.1 (is_settled_list (map (carried (shifted m)) s.list) u.list s.main u.main settles)))

-- and there is no other
pub moved-unique : (ms : List Move) (s t : Selected) → AllByRecursion IsMove ms → IsSettledList s → IsMovedAtEach ms s t → t ≡ moved_at_once ms s
moved-unique [] s t a h k = sym (let P : Selected → Type 0 = λ x. moved_at_once [] s ≡ x in subst P k (sym (moved_at_once-each [] s a h)))
moved-unique (m ∷ ms) s t a h k =
    let u : Selected = each_settled (carried (shifted m)) s in
    let settles : IsSettled (map (carried (shifted m)) s.list) s.main u.list u.main = each_settled-settles (shifted m) (shifted-keeps m a.0) s h in
    let list : IsSettledList u = is_settled_list (map (carried (shifted m)) s.list) u.list s.main u.main settles in
    let mapped : AllByRecursion IsRange (map (carried (shifted m)) s.list) = ranges-map (shifted m) (shifted-keeps m a.0) s.list h.ranges in
    let same : (k.0.list ≡ u.list) × (k.0.main ≡ u.main) = settled-unique (map (carried (shifted m)) s.list) k.0.list u.list s.main k.0.main u.main mapped k.1 settles in
    let P : List Range → ℕ → Selected = λ ys n. record { list = ys; main = n } in
    let is : k.0 ≡ u = ap₂ P same.0 same.1 in
    let twice : moved_at_once ms u ≡ moved_at_once (m ∷ ms) s = each_settled-twice (shifted m) (all_shifted ms) (shifted-keeps m a.0) (all_shifted-keeps ms a.1) s h in
    moved-unique ms u t a.1 list (subst (λ (x : Selected). IsMovedAtEach ms x t) is k.2) ∙ twice

-- changes in two parts
pub moved_at_once-append : (ms ns : List Move) (s : Selected) → AllByRecursion IsMove ms → AllByRecursion IsMove ns → IsSettledList s → moved_at_once ns (moved_at_once ms s) ≡ moved_at_once (ms ++ ns) s
moved_at_once-append ms ns s a b h =
    each_settled-twice (all_shifted ms) (all_shifted ns) (all_shifted-keeps ms a) (all_shifted-keeps ns b) s h ∙ ap (λ l. settled (record { list = l; main = s.main })) (maps s.list)
  where
    one : (x : Range) → carried (λ o. all_shifted ns (all_shifted ms o)) x ≡ carried (all_shifted (ms ++ ns)) x
    one x = same_range _ _ (sym (all_shifted-append ms ns x.low)) (sym (all_shifted-append ms ns x.high)) refl refl

    maps : (xs : List Range) → map (carried (λ o. all_shifted ns (all_shifted ms o))) xs ≡ map (carried (all_shifted (ms ++ ns))) xs
    maps [] = refl
    maps (x ∷ xs) = ap₂ (λ y ys. y ∷ ys) (one x) (maps xs)
