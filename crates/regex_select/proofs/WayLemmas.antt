-- The matches that a search over a list of selections passes.
use Rattle.std.proofs.Common.{◌≡◌, ℕ, zero, suc, ◌+◌, ◌<◌, ◌≤◌, Bool, true, false, cond, not, eqb, leb, ◌&&◌, ◌||◌, ◌⊎◌, inl, inr, List, [], ◌∷◌, ◌++◌, length, take, drop, get_or, set, map, filter, reverse, refl, sym, ap, ap₂, subst, ◌∙◌, arith}
use Rattle.std.specs.List.{AllByRecursion}
use Rattle.std.proofs.lemmas.Bool.{not-false, eq-eqb, ne_eqb, lt-ltb, le-ltb, leb-true, le-leb, false≢true}
use Rattle.std.proofs.lemmas.List.{take_more_set, drop-set-lt, drop_more, map_more, map_push, length-set, reverse-append, reverse-reverse}
use Rattle.text_model.specs.declared.coords.Coord.{Coord}
use Rattle.text_model.specs.Coords.{is_at_most}
use Rattle.text_model.proofs.PlaceLemmas.{three_ways}
use Rattle.list_model.proofs.ListLemmas.{all_weaker}
use Rattle.selection_set.specs.declared.sel.Sel.{Sel}
use Rattle.directions.specs.declared.direction.Direction.{Direction}
use Rattle.directions.specs.declared.direction.Direction.TheVariants.{Forward, Backward}
use Rattle.regex_select.specs.declared.way.Search.{Search}
use Rattle.regex_select.specs.Searching.{on_the_way, first_or}
use Rattle.regex_select.specs.Ways.{is_ahead_at, ArePassed, IsFurther, GoesAhead, sought_at, reached_at, searched_at}

-- ---- the order of coordinates

-- the two ways in which one coordinate is at most another
abbrev Precedes : Coord → Coord → Type 0
Precedes a b = (a.line < b.line) ⊎ ((a.line ≡ b.line) × (a.column ≤ b.column))

same-line : (a b : Coord) → a.line ≡ b.line → is_at_most a b ≡ leb a.column b.column
same-line a b h =
    ap (λ v. v || (eqb a.line b.line && leb a.column b.column)) (le-ltb a.line b.line (omega arith)) ∙ ap (λ v. v && leb a.column b.column) (eq-eqb a.line b.line h)

later-line : (a b : Coord) → b.line < a.line → is_at_most a b ≡ false
later-line a b h =
    ap (λ v. v || (eqb a.line b.line && leb a.column b.column)) (le-ltb a.line b.line (omega arith)) ∙ ap (λ v. v && leb a.column b.column) (ne_eqb a.line b.line (λ e. omega arith))

precedes : (a b : Coord) → is_at_most a b ≡ true → Precedes a b
precedes a b e =
    elim (three_ways a.line b.line) [
      | inl lt ↦ inl lt
      | inr w ↦ elim w [
        | inl same ↦ inr (same, leb-true a.column b.column (sym (same-line a b same) ∙ e))
        | inr gt ↦ absurd (false≢true (sym (later-line a b gt) ∙ e))
      ]
    ]

at-most : (a b : Coord) → Precedes a b → is_at_most a b ≡ true
at-most a b (inl lt) = ap (λ v. v || (eqb a.line b.line && leb a.column b.column)) (lt-ltb a.line b.line lt)
at-most a b (inr same) = same-line a b same.0 ∙ le-leb a.column b.column same.1

precedes-through : (a b c : Coord) → Precedes a b → Precedes b c → Precedes a c
precedes-through a b c (inl h) (inl k) = inl (omega arith)
precedes-through a b c (inl h) (inr k) = inl (omega (arith, k.0))
precedes-through a b c (inr h) (inl k) = inl (omega (arith, h.0))
precedes-through a b c (inr h) (inr k) = inr (omega (arith, h.0, k.0), omega (arith, h.1, k.1))

through : (a b c : Coord) → is_at_most a b ≡ true → is_at_most b c ≡ true → is_at_most a c ≡ true
through a b c h k = at-most a c (precedes-through a b c (precedes a b h) (precedes b c k))

-- ---- what is passed stays passed

passed-on : (direction : Direction) (s t m : Sel) → IsFurther direction s t → is_ahead_at direction s m ≡ false → is_ahead_at direction t m ≡ false
passed-on Forward s t m h p = ap not (through m.low s.high t.high (not-false (is_at_most m.low s.high) p) h)
passed-on Backward s t m h p = ap not (through t.low s.low m.low h (not-false (is_at_most s.low m.low) p))

all-passed-on : (direction : Direction) (s t : Sel) (ms : List Sel) → IsFurther direction s t → ArePassed direction s ms → ArePassed direction t ms
all-passed-on direction s t ms h p = all_weaker (λ m. is_ahead_at direction s m ≡ false) (λ m. is_ahead_at direction t m ≡ false) (λ m q. passed-on direction s t m h q) ms p

goes-on-drop : (direction : Direction) (ss : List Sel) (n : ℕ) → GoesAhead direction ss → GoesAhead direction (drop n ss)
goes-on-drop direction ss zero g = g
goes-on-drop direction [] (suc n) g = tt
goes-on-drop direction (s ∷ ss) (suc n) g = goes-on-drop direction ss n g.1

-- no match is ahead of one of some selections
abbrev pub ArePassedByAll : Direction → List Sel → List Sel → Type 0
ArePassedByAll direction ss ms = AllByRecursion (λ s. ArePassed direction s ms) ss

-- ---- the first match ahead

first-ahead : {X : Type 0} (p : X → Bool) (xs tail : List X) (n : ℕ) (d e : X) → n ≤ length xs → AllByRecursion (λ x. p x ≡ false) (take n xs) → (n < length xs → p (get_or xs n e) ≡ true) → first_or d (filter p xs ++ tail) ≡ first_or d (drop n xs ++ tail)
first-ahead p [] tail zero d e l h a = refl
first-ahead p [] tail (suc n) d e l h a = refl
first-ahead p (x ∷ xs) tail zero d e l h a = ap (λ b. first_or d (cond b (x ∷ filter p xs) (filter p xs) ++ tail)) (a (omega arith))
first-ahead p (x ∷ xs) tail (suc n) d e l h a = ap (λ b. first_or d (cond b (x ∷ filter p xs) (filter p xs) ++ tail)) h.0 ∙ first-ahead p xs tail n d e (omega (arith, l)) h.1 (λ k. a (omega (arith, k)))

-- the match at the place that was found is the one that is sought
pub found-at : (direction : Direction) (ms : List Sel) (s : Sel) (n : ℕ) (found : Sel) → n ≤ length ms → ArePassed direction s (take n ms) → ((d : Sel) → n < length ms → is_ahead_at direction s (get_or ms n d) ≡ true) → ((d : Sel) → found ≡ first_or d (drop n ms ++ ms)) → found ≡ sought_at direction ms s
found-at direction ms s n found l h a f = f s ∙ sym (first-ahead (is_ahead_at direction s) ms ms n s s l h (a s))

-- ---- one selection after another

-- so many selections of a list have become what a search makes of them, and some matches are passed by all others
pub record IsUnderway (search : Search) (ms all list : List Sel) (n passed : ℕ) : Type 0 where
  pub done : take n list ≡ map (searched_at search ms) (take n all)
  pub rest : drop n list ≡ drop n all
  pub same : length list ≡ length all
  pub few : passed ≤ length ms
  pub behind : ArePassedByAll search.direction (drop n all) (take passed ms)

-- the next selection is that of the list at the start
next-is : (search : Search) (ms all list : List Sel) (n passed : ℕ) (s : Sel) → IsUnderway search ms all list n passed → n < length list → ((d : Sel) → s ≡ get_or list n d) → drop n all ≡ s ∷ drop (n + 1) all
next-is search ms all list n passed s u l e =
    let next : drop n all ≡ get_or all n s ∷ drop (n + 1) all = drop_more all n s (omega (arith, l, u.same)) in
    let own : s ≡ get_or all n s = e s ∙ ap (λ x. get_or x 0 s) (sym (drop_more list n s l) ∙ u.rest ∙ next) in
    next ∙ ap (λ (x : Sel). x ∷ drop (n + 1) all) (sym own)

pub underway-more : (search : Search) (ms all list : List Sel) (n passed now : ℕ) (s found y : Sel) → IsUnderway search ms all list n passed → GoesAhead search.direction all → n < length list → ((d : Sel) → s ≡ get_or list n d)
    → now ≤ length ms → ArePassed search.direction s (take now ms) → ((d : Sel) → now < length ms → is_ahead_at search.direction s (get_or ms now d) ≡ true) → ((d : Sel) → found ≡ first_or d (drop now ms ++ ms)) → y ≡ reached_at search.extend s found
    → IsUnderway search ms all (set list n y) (n + 1) now
underway-more search ms all list n passed now s found y u g l e few h a f r =
    let there : n < length all = omega (arith, l, u.same) in
    let next : drop n all ≡ s ∷ drop (n + 1) all = next-is search ms all list n passed s u l e in
    let own : get_or all n s ≡ s = ap (λ x. get_or x 0 s) (sym (drop_more all n s there) ∙ next) in
    let goes : GoesAhead search.direction (s ∷ drop (n + 1) all) = subst (GoesAhead search.direction) next (goes-on-drop search.direction all n g) in
    let is : y ≡ searched_at search ms (get_or all n s) = r ∙ ap (reached_at search.extend s) (found-at search.direction ms s now found few h a f) ∙ ap (searched_at search ms) (sym own) in
    record {
      done = take_more_set list n y l ∙ ap₂ (λ xs x. xs ++ x ∷ []) u.done is ∙ sym (map_more (searched_at search ms) all n s there);
      rest = drop-set-lt (n + 1) list n y (omega arith) ∙ ap (λ x. drop 1 x) (sym (drop_more list n s l) ∙ u.rest ∙ drop_more all n s there);
      same = length-set list n y ∙ u.same;
      few = few;
      behind = all_weaker (IsFurther search.direction s) (λ t. ArePassed search.direction t (take now ms)) (λ t k. all-passed-on search.direction s t (take now ms) k h) (drop (n + 1) all) goes.0;
    }

-- ---- both orders of a list

pub map-reverse : {X Y : Type 0} (f : X → Y) (xs : List X) → map f (reverse xs) ≡ reverse (map f xs)
map-reverse f [] = refl
map-reverse f (x ∷ xs) = ap (map f) (reverse-append (x ∷ []) xs) ∙ map_push f (reverse xs) x ∙ ap (λ l. l ++ f x ∷ []) (map-reverse f xs) ∙ sym (reverse-append (f x ∷ []) (map f xs))

pub map-way : {X Y : Type 0} (f : X → Y) (direction : Direction) (xs : List X) → map f (on_the_way direction xs) ≡ on_the_way direction (map f xs)
map-way f Forward xs = refl
map-way f Backward xs = map-reverse f xs

way-way : {X : Type 0} (direction : Direction) (xs : List X) → on_the_way direction (on_the_way direction xs) ≡ xs
way-way Forward xs = refl
way-way Backward xs = reverse-reverse xs

-- what was made of a list in the order of a way, put back
pub back-in-order : (f : Sel → Sel) (direction : Direction) (all there made back : List Sel) → there ≡ on_the_way direction all → made ≡ map f there → back ≡ on_the_way direction made → back ≡ map f all
back-in-order f direction all there made back e m b = b ∙ ap (on_the_way direction) (m ∙ ap (map f) e ∙ map-way f direction all) ∙ way-way direction (map f all)
