-- A vertical move by the coordinates of the cursor.
use Rattle.std.proofs.Common.{◌≡◌, ℕ, ℤ, List, None, FitsSigned, w64, to_z, of_z, to_z-of_z, sym, ap, ◌∙◌}
use Rattle.std.specs.Prelude.{unwrap_or, option_map}
use Rattle.std.specs.declared.option.Option.{Option}
use Rattle.text_model.specs.declared.coords.Coord.{Coord}
use Rattle.text_model.specs.Texts.{line_count, coord_at}
use Rattle.list_model.specs.Ranges.{cursor}
use Rattle.selection_set.specs.declared.sel.Sel.{Sel}
use Rattle.selection_set.specs.Inside.{range_of, IsInside, cursor_at}
use Rattle.selection_set.proofs.CursorLemmas.{coord_at-cursor}
use Rattle.motion_keys.specs.Motions.{line_by, aim, column_of, landed, vertical}

-- what a selection without a target aims at
pub aim-cursor : (text : List ℕ) (sel : Sel) (at : Coord) (tabstop : ℕ) → IsInside text sel → at ≡ cursor_at sel → sel.target ≡ None → aim text (range_of text sel) tabstop ≡ column_of text at tabstop
aim-cursor text sel at tabstop h e n =
    ap (λ t. unwrap_or t (column_of text (coord_at text (cursor (range_of text sel))) tabstop)) n
    ∙ ap (λ (c : Coord). column_of text c tabstop) (coord_at-cursor text sel h ∙ sym e)

-- a number of 64 bits comes back from its bits
as-passed : (z : ℤ) → FitsSigned w64 z → to_z w64 (of_z w64 z) ≡ z
as-passed z h = to_z-of_z h

-- the move, where the line that it leads to is known
pub vertical-line : (text : List ℕ) (sel : Sel) (by : ℤ) (tabstop : ℕ) (at : Coord) (target count : ℕ) (line : Option ℕ) → IsInside text sel → FitsSigned w64 by
    → at ≡ cursor_at sel → target ≡ aim text (range_of text sel) tabstop → count ≡ line_count text → line ≡ line_by count at.line (to_z w64 (of_z w64 by))
    → vertical text (range_of text sel) by tabstop ≡ option_map (landed text target tabstop) line
vertical-line text sel by tabstop at target count line h b e f g k =
    ap (λ (c : Coord). option_map (landed text (aim text (range_of text sel) tabstop) tabstop) (line_by (line_count text) c.line by)) (coord_at-cursor text sel h ∙ sym e)
    ∙ ap (λ n. option_map (landed text (aim text (range_of text sel) tabstop) tabstop) (line_by n at.line by)) (sym g)
    ∙ ap (λ l. option_map (landed text (aim text (range_of text sel) tabstop) tabstop) l) (ap (line_by count at.line) (sym (as-passed by b)) ∙ sym k)
    ∙ ap (λ t. option_map (landed text t tabstop) line) (sym f)
