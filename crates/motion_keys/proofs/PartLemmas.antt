-- From the cursor to a place of its line, by coordinates and by offsets.
use Rattle.std.proofs.Common.{◌≡◌, ℕ, List, Some, sym, ap, subst, ◌∙◌}
use Rattle.text_model.specs.declared.coords.Coord.{Coord}
use Rattle.text_model.specs.Texts.{offset, IsPlace}
use Rattle.list_model.specs.Ranges.{Range, cursor}
use Rattle.selection_set.specs.declared.sel.Sel.{Sel}
use Rattle.selection_set.specs.declared.sel.Pair.{Pair}
use Rattle.selection_set.specs.Inside.{range_of, IsInside, cursor_at}
use Rattle.selection_set.specs.Listing.{range_between}
use Rattle.selection_set.proofs.CursorLemmas.{cursor-range_of, cursor-place, coord_at-cursor}
use Rattle.motion_keys.specs.Jumps.{RangesAre}
use Rattle.motion_keys.specs.Landmarks.{line_of}

-- the pair of two places
abbrev pub pair_of : Coord → Coord → Pair
pair_of a b = record { anchor = a; cursor = b }

-- from the cursor to a place that is known by the number of its line
pub part-between : (text : List ℕ) (sel : Sel) (place : ℕ → ℕ) (at to : Coord) (part : Range) → IsInside text sel → at ≡ cursor_at sel → IsPlace text to → offset text to ≡ place at.line
    → part ≡ range_between (cursor (range_of text sel)) (place (line_of text (cursor (range_of text sel)))) → RangesAre text (Some (pair_of at to)) (Some part)
part-between text sel place at to part h e p f g =
    let own : cursor (range_of text sel) ≡ offset text at = cursor-range_of text sel ∙ ap (offset text) (sym e) in
    let line : line_of text (cursor (range_of text sel)) ≡ at.line = ap (λ (c : Coord). c.line) (coord_at-cursor text sel h ∙ sym e) in (
      record { anchor = subst (IsPlace text) (sym e) (cursor-place text sel h); cursor = p },
      ap Some (g ∙ ap (λ o. range_between o (place (line_of text (cursor (range_of text sel))))) own ∙ ap (λ n. range_between (offset text at) (place n)) line ∙ ap (range_between (offset text at)) (sym f)),
    )
