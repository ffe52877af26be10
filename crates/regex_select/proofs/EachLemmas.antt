-- Selections one after another, by the ranges that they are, and settled lists of them.
use Rattle.std.proofs.Common.{◌≡◌, ℕ, ◌+◌, ◌<◌, List, [], ◌∷◌, ◌++◌, length, take, get_or, map, sym, ap, subst, subst₂, ◌∙◌, arith}
use Rattle.std.specs.List.{AllByRecursion}
use Rattle.std.proofs.lemmas.List.{take_more, map-append, length-map}
use Rattle.list_model.specs.Ranges.{Range, Selected, IsRange}
use Rattle.list_model.specs.Settling.{settled}
use Rattle.selection_set.specs.declared.sel.Sel.{Sel}
use Rattle.selection_set.specs.Inside.{range_of}
use Rattle.selection_set.specs.Listing.{Listed, AreInside, ranges_of, IsSettledIn}
use Rattle.selection_set.specs.Held.{selected, IsHeld}
use Rattle.selection_set.proofs.SettleLemmas.{ranges-inside}
use Rattle.selection_set.proofs.HeldLemmas.{settled-held, selected-is}

ranges-taken : (text : List ℕ) (all : List Sel) (n : ℕ) (d x : Sel) → n < length all → x ≡ get_or all n d → ranges_of text (take (n + 1) all) ≡ ranges_of text (take n all) ++ range_of text x ∷ []
ranges-taken text all n d x h e =
    ap (ranges_of text) (take_more all n d h) ∙ map-append (range_of text) (take n all) (get_or all n d ∷ []) ∙ ap (λ (s : Sel). ranges_of text (take n all) ++ range_of text s ∷ []) (sym e)

-- a function of the ranges, one further
pub mapped-more : {Y : Type 0} (text : List ℕ) (f : Range → Y) (all : List Sel) (n : ℕ) (d x : Sel) → n < length all → x ≡ get_or all n d → map f (ranges_of text (take (n + 1) all)) ≡ map f (ranges_of text (take n all)) ++ f (range_of text x) ∷ []
mapped-more text f all n d x h e = ap (map f) (ranges-taken text all n d x h e) ∙ map-append f (ranges_of text (take n all)) (range_of text x ∷ [])

-- what was settled, by the ranges that it is
settled-given : (text : List ℕ) (list : List Sel) (main : ℕ) (given : Selected) (s : Listed) → AreInside text list → ranges_of text list ≡ given.list → main ≡ given.main
    → ((t : List ℕ) → AreInside t list → IsSettledIn t (ranges_of t list) main s) → IsSettledIn text given.list given.main s
settled-given text list main given s i e m settles = subst₂ (λ l n. IsSettledIn text l n s) e m (settles text i)

pub given-held : (text : List ℕ) (list : List Sel) (main : ℕ) (s : Listed) → AreInside text list → ((t : List ℕ) → AreInside t list → IsSettledIn t (ranges_of t list) main s) → IsHeld text s
given-held text list main s i settles = settled-held text (ranges_of text list) main s (settles text i)

pub given-selected : (text : List ℕ) (list : List Sel) (main : ℕ) (given : Selected) (s : Listed) → AreInside text list → ranges_of text list ≡ given.list → main ≡ given.main → main < length list
    → ((t : List ℕ) → AreInside t list → IsSettledIn t (ranges_of t list) main s) → selected text s ≡ settled given
given-selected text list main given s i e m below settles =
    selected-is text given s (subst (AllByRecursion IsRange) e (ranges-inside text list i)) (omega (arith, m, below, length-map list (range_of text), ap length e)) (settled-given text list main given s i e m settles)
