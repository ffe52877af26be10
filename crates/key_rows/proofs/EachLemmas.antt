-- The selections of a list that go somewhere, one after another, and the settled list of where they went.
use Rattle.std.proofs.Common.{◌≡◌, ℕ, ◌+◌, ◌<◌, List, [], ◌∷◌, ◌++◌, length, map, get_or, take, sym, ap, ap₂, subst₂, ◌∙◌, arith}
use Rattle.std.proofs.lemmas.List.{length-map, map-append, take_more}
use Rattle.list_model.specs.Ranges.{Range}
use Rattle.list_model.specs.Settling.{settled, each_settled}
use Rattle.selection_set.specs.declared.sel.Sel.{Sel}
use Rattle.selection_set.specs.Inside.{range_of}
use Rattle.selection_set.specs.Listing.{Listed, AreInside, ranges_of, IsSettledIn}
use Rattle.selection_set.proofs.SettleLemmas.{ranges-inside}
use Rattle.selection_set.specs.Held.{selected, IsHeld}
use Rattle.selection_set.proofs.HeldLemmas.{zero_sel, selected-is}

-- one more went
pub moved-step : (text : List ℕ) (f : Range → Range) (list all : List Sel) (x : Sel) (n : ℕ) → n < length all → range_of text x ≡ f (range_of text (get_or all n zero_sel)) → ranges_of text list ≡ map f (ranges_of text (take n all))
    → ranges_of text (list ++ x ∷ []) ≡ map f (ranges_of text (take (n + 1) all))
moved-step text f list all x n h e k =
    let y : Sel = get_or all n zero_sel in
    map-append (range_of text) list (x ∷ [])
    ∙ ap₂ (λ (l : List Range) (r : Range). l ++ r ∷ []) k e
    ∙ sym (map-append f (ranges_of text (take n all)) (range_of text y ∷ []))
    ∙ ap (map f) (sym (map-append (range_of text) (take n all) (y ∷ [])))
    ∙ ap (λ l. map f (ranges_of text l)) (sym (take_more all n zero_sel h))

-- as many as before
pub moved-length : (text : List ℕ) (f : Range → Range) (list all : List Sel) → ranges_of text list ≡ map f (ranges_of text all) → length list ≡ length all
moved-length text f list all e = sym (length-map list (range_of text)) ∙ ap length e ∙ length-map (ranges_of text all) f ∙ length-map all (range_of text)

-- what settles them is the list with each of them moved
pub moved-settled : (text : List ℕ) (f : Range → Range) (sels s : Listed) (list : List Sel) → IsHeld text sels → AreInside text list → ranges_of text list ≡ map f (ranges_of text sels.list)
    → IsSettledIn text (ranges_of text list) sels.main s → selected text s ≡ each_settled f (selected text sels)
moved-settled text f sels s list h i e k =
    selected-is text (record { list = ranges_of text list; main = sels.main }) s (ranges-inside text list i) (omega (arith, h.settled.main_is, length-map sels.list (range_of text), length-map list (range_of text), moved-length text f list sels.list e)) k
    ∙ ap (λ l. settled (record { list = l; main = sels.main })) e

-- the same, where what was settled is known by its parts
pub settles-moved : (text : List ℕ) (f : Range → Range) (sels s : Listed) (list slice : List Sel) (main : ℕ) → slice ≡ list → main ≡ sels.main → IsHeld text sels → AreInside text list → ranges_of text list ≡ map f (ranges_of text sels.list)
    → ((t : List ℕ) → AreInside t slice → IsSettledIn t (ranges_of t slice) main s) → selected text s ≡ each_settled f (selected text sels)
settles-moved text f sels s list slice main same is_main h i e settles =
    let P : List Sel → ℕ → Type 0 = λ l n. (t : List ℕ) → AreInside t l → IsSettledIn t (ranges_of t l) n s in
    moved-settled text f sels s list h i e (subst₂ P same is_main settles text i)
