-- The main selection, extended to a place.
use Rattle.std.proofs.Common.{◌≡◌, ℕ, List, get_or, sym, ap, subst, ◌∙◌}
use Rattle.text_model.specs.declared.coords.Coord.{Coord}
use Rattle.text_model.specs.Texts.{offset, IsPlace}
use Rattle.list_model.specs.Ranges.{anchor}
use Rattle.selection_set.specs.declared.sel.Sel.{Sel}
use Rattle.selection_set.specs.declared.sel.Pair.{Pair}
use Rattle.selection_set.specs.Inside.{range_of, IsInside, anchor_at}
use Rattle.selection_set.specs.Listing.{Listed, range_between, IsPairInside, sel_of_pair}
use Rattle.selection_set.specs.Held.{selected, IsHeld, main_of}
use Rattle.selection_set.proofs.HeldLemmas.{IsMain, main-sel}
use Rattle.motion_keys.proofs.FoundLemmas.{pair-inside, pair-range, anchor-range_of, anchor-place}

-- the ends of a selection that was extended
abbrev pub ends : Coord → Coord → Pair
ends a b = record { anchor = a; cursor = b }

-- a selection that was extended lies inside the text, and goes from the main selection's anchor to the place
pub record IsExtended (text : List ℕ) (s : Listed) (place : Coord) (out : Sel) : Type 0 where
  pub inside : IsInside text out
  pub same : range_of text out ≡ range_between (anchor (main_of (selected text s))) (offset text place)

pub main-extended : (text : List ℕ) (s : Listed) (main : ℕ) (sel out : Sel) (a place : Coord) → main ≡ s.main → ((d : Sel) → sel ≡ get_or s.list main d) → a ≡ anchor_at sel → out ≡ sel_of_pair (ends a place)
    → IsHeld text s → IsPlace text place → IsExtended text s place out
main-extended text s main sel out a place m e f g h p =
    let is : IsMain text s sel = main-sel text s main sel m e h in
    let pair : Pair = ends a place in
    let there : IsPairInside text pair = record { anchor = subst (IsPlace text) (sym f) (anchor-place text sel is.inside); cursor = p } in
    record {
      inside = subst (IsInside text) (sym g) (pair-inside text pair there);
      same = ap (range_of text) g ∙ pair-range text pair there ∙ ap (λ n. range_between n (offset text place)) (ap (offset text) f ∙ sym (anchor-range_of text sel) ∙ ap anchor is.same);
    }
