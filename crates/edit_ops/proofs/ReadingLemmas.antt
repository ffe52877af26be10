-- The texts of the first selections, and of one more.
use Rattle.std.proofs.Common.{◌≡◌, ℕ, ◌+◌, ◌-◌, ◌<◌, List, [], ◌∷◌, ◌++◌, length, take, drop, get_or, map, refl, sym, ap, ap₂, ◌∙◌, arith, length-take-le, length-drop}
use Rattle.std.proofs.lemmas.List.{map-append, map_more}
use Rattle.text_model.specs.Texts.{offset}
use Rattle.text_model.proofs.PlaceLemmas.{offset-below}
use Rattle.selection_set.specs.declared.sel.Sel.{Sel}
use Rattle.selection_set.specs.Inside.{range_of, IsInside}
use Rattle.selection_set.specs.Listing.{ranges_of}
use Rattle.edit_ops.specs.Reading.{text_of_range, texts_of}

pub texts-next : (text : List ℕ) (sels : List Sel) (xs : List (List ℕ)) (x : List ℕ) (d : Sel) (i : ℕ) → i < length sels
    → xs ≡ texts_of text (ranges_of text (take i sels)) → x ≡ text_of_range text (range_of text (get_or sels i d))
    → xs ++ x ∷ [] ≡ texts_of text (ranges_of text (take (i + 1) sels))
texts-next text sels xs x d i h e one =
    ap₂ (λ ys y. ys ++ y ∷ []) e one
    ∙ sym (map-append (text_of_range text) (ranges_of text (take i sels)) (range_of text (get_or sels i d) ∷ []))
    ∙ ap (texts_of text) (sym (map_more (range_of text) sels i d h))

-- the same by a function of the texts
pub texts-more : {X : Type 0} (f : List ℕ → X) (text : List ℕ) (sels : List Sel) (xs : List X) (x : X) (d : Sel) (i : ℕ) → i < length sels
    → xs ≡ map f (texts_of text (ranges_of text (take i sels))) → x ≡ f (text_of_range text (range_of text (get_or sels i d)))
    → xs ++ x ∷ [] ≡ map f (texts_of text (ranges_of text (take (i + 1) sels)))
texts-more f text sels xs x d i h e one =
    let t : List ℕ = text_of_range text (range_of text (get_or sels i d)) in
    ap₂ (λ ys y. ys ++ y ∷ []) e one
    ∙ sym (map-append f (texts_of text (ranges_of text (take i sels))) (t ∷ []))
    ∙ ap (map f) (texts-next text sels (texts_of text (ranges_of text (take i sels))) t d i h refl refl)

-- how many characters a selection has
pub length-text_of : (text : List ℕ) (sel : Sel) → IsInside text sel → length (text_of_range text (range_of text sel)) ≡ offset text sel.high + 1 - offset text sel.low
length-text_of text sel h =
    omega (arith, length-take-le (offset text sel.high + 1 - offset text sel.low) (drop (offset text sel.low) text) (omega (arith, length-drop (offset text sel.low) text, offset-below text sel.high h.high)))
