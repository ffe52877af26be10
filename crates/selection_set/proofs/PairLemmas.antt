-- Selections of two ends, by coordinates and by offsets; and what the calls that make lists are proved by.
use Rattle.std.proofs.Common.{◌≡◌, ℕ, ◌<◌, ◌≤◌, Bool, true, false, leb, List, [], ◌∷◌, length, map, None, Result, Ok, Err, IfOk, refl, sym, ap, ap₂, subst, ◌∙◌, arith, inl, inr, leb-true, leb-false, lt-ltb, le-ltb}
use Rattle.std.specs.Prelude.{if◌then◌else◌}
use Rattle.std.specs.List.{All, AllByRecursion}
use Rattle.std.specs.List.Sorted.{IsPermutation, IsNonDecreasingBy}
use Rattle.text_model.specs.declared.TheConstants.{MAX_SELECTIONS}
use Rattle.text_model.specs.Coords.{is_at_most}
use Rattle.text_model.specs.Texts.{offset}
use Rattle.text_model.proofs.CoordLemmas.{test_cases}
use Rattle.text_model.proofs.PlaceLemmas.{is_at_most-offset}
use Rattle.list_model.proofs.UniqueLemmas.{same_range}
use Rattle.selection_set.specs.declared.sel.Sel.{Sel}
use Rattle.selection_set.specs.declared.sel.Pair.{Pair}
use Rattle.selection_set.specs.declared.order.Numbered.{Numbered}
use Rattle.selection_set.specs.declared.making.SelsError.{SelsError}
use Rattle.selection_set.specs.Inside.{range_of, IsInside}
use Rattle.selection_set.specs.Listing.{Listed, ranges_of, AreInside, LowsDontFall, IsSettledIn, range_of_pair, IsPairInside, sel_of_pair}
use Rattle.selection_set.specs.Numbering.{numbered_from, rank, HasSmallNumbers}
use Rattle.selection_set.proofs.OrderLemmas.{IsOrderOf}

-- a selection of two ends is their range, inside the text
record IsPairOf (text : List ℕ) (pair : Pair) (sel : Sel) : Type 0 where
  inside : IsInside text sel
  same : range_of text sel ≡ range_of_pair text pair

pair-sel : (text : List ℕ) (pair : Pair) → IsPairInside text pair → IsPairOf text pair (sel_of_pair pair)
pair-sel text pair h =
    elim (test_cases (is_at_most pair.anchor pair.cursor)) [
      | inl e ↦ (let le : offset text pair.anchor ≤ offset text pair.cursor = leb-true (offset text pair.anchor) (offset text pair.cursor) (sym order ∙ e) in
          let is : sel_of_pair pair ≡ record { low = pair.anchor; high = pair.cursor; turned = false; target = None } = ap choice e in
          subst (IsPairOf text pair) (sym is) (record {
            inside = record { low = h.anchor; high = h.cursor; ordered = le };
            same = same_range _ _ (omega arith) (omega arith) (sym (le-ltb (offset text pair.cursor) (offset text pair.anchor) le)) refl;
          }))
      | inr e ↦ (let lt : offset text pair.cursor < offset text pair.anchor = leb-false (offset text pair.anchor) (offset text pair.cursor) (sym order ∙ e) in
          let is : sel_of_pair pair ≡ record { low = pair.cursor; high = pair.anchor; turned = true; target = None } = ap choice e in
          subst (IsPairOf text pair) (sym is) (record {
            inside = record { low = h.cursor; high = h.anchor; ordered = omega arith };
            same = same_range _ _ (omega arith) (omega arith) (sym (lt-ltb (offset text pair.cursor) (offset text pair.anchor) lt)) refl;
          }))
    ]
  where
    order : is_at_most pair.anchor pair.cursor ≡ leb (offset text pair.anchor) (offset text pair.cursor)
    order = is_at_most-offset text pair.anchor pair.cursor (inl h.anchor) (inl h.cursor)

    choice : Bool → Sel
    choice b = if b then record { low = pair.anchor; high = pair.cursor; turned = false; target = None } else record { low = pair.cursor; high = pair.anchor; turned = true; target = None }

pub pairs-inside : (text : List ℕ) (pairs : List Pair) → AllByRecursion (IsPairInside text) pairs → AreInside text (map sel_of_pair pairs)
pairs-inside text [] h = tt
pairs-inside text (p ∷ ps) h = (let w : IsPairOf text p (sel_of_pair p) = pair-sel text p h.0 in w.inside, pairs-inside text ps h.1)

pub pairs-ranges : (text : List ℕ) (pairs : List Pair) → AllByRecursion (IsPairInside text) pairs → ranges_of text (map sel_of_pair pairs) ≡ map (range_of_pair text) pairs
pairs-ranges text [] h = refl
pairs-ranges text (p ∷ ps) h = let w : IsPairOf text p (sel_of_pair p) = pair-sel text p h.0 in ap₂ (λ x xs. x ∷ xs) w.same (pairs-ranges text ps h.1)

-- what settles the selections of pairs settles the pairs
pub pairs-settle : (pairs : List Pair) (list : List Sel) (main : ℕ) (s : Listed) → list ≡ map sel_of_pair pairs → ((text : List ℕ) → AreInside text list → IsSettledIn text (ranges_of text list) main s) → (text : List ℕ) → AllByRecursion (IsPairInside text) pairs → IsSettledIn text (map (range_of_pair text) pairs) main s
pairs-settle pairs list main s e f text h =
    subst (λ rs. IsSettledIn text rs main s) (ap (ranges_of text) e ∙ pairs-ranges text pairs h) (f text (subst (AreInside text) (sym e) (pairs-inside text pairs h)))

-- what the list that was sorted is
pub order-of : (list : List Sel) (main : ℕ) (items ms : List Numbered) → main < length list → length list ≤ MAX_SELECTIONS → items ≡ numbered_from 0 list → All HasSmallNumbers items → IsPermutation items ms → IsNonDecreasingBy rank ms → IsOrderOf list main ms
order-of list main items ms m f e small p o = record {
  main_is = m;
  few = f;
  permuted = subst (λ xs. IsPermutation xs ms) e p;
  order = o;
  small = subst (All HasSmallNumbers) e small;
}

-- settling, where the list is known by its parts
pub settles-parts : (old s : Listed) (list : List Sel) (main : ℕ) → old ≡ record { list = list; main = main } → ((text : List ℕ) → AreInside text old.list → LowsDontFall (ranges_of text old.list) → IsSettledIn text (ranges_of text old.list) old.main s) → (text : List ℕ) → AreInside text list → LowsDontFall (ranges_of text list) → IsSettledIn text (ranges_of text list) main s
settles-parts old s list main e f text =
    let P : Listed → Type 0 = λ o. AreInside text o.list → LowsDontFall (ranges_of text o.list) → IsSettledIn text (ranges_of text o.list) o.main s in
    subst P e (f text)

-- what was settled of a copy
pub vec-settles : (result : Result Listed SelsError) (items list : List Sel) (main : ℕ) → items ≡ list → IfOk result (λ s. (text : List ℕ) → AreInside text items → IsSettledIn text (ranges_of text items) main s)
    → IfOk result (λ s. (text : List ℕ) → AreInside text list → IsSettledIn text (ranges_of text list) main s)
vec-settles result items list main e h =
    let P : List Sel → Type 0 = λ l. IfOk result (λ s. (text : List ℕ) → AreInside text l → IsSettledIn text (ranges_of text l) main s) in
    subst P e h

-- and of the selections of pairs
pub vec-pairs-settle : (result : Result Listed SelsError) (items : List Sel) (pairs : List Pair) (main : ℕ) → items ≡ map sel_of_pair pairs → IfOk result (λ s. (text : List ℕ) → AreInside text items → IsSettledIn text (ranges_of text items) main s)
    → IfOk result (λ s. (text : List ℕ) → AllByRecursion (IsPairInside text) pairs → IsSettledIn text (map (range_of_pair text) pairs) main s)
vec-pairs-settle (Ok s) items pairs main e h = pairs-settle pairs items main s e h
vec-pairs-settle (Err error) items pairs main e h = h
