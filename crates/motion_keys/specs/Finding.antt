-- The motions in one form: where each leads from a selection, and what becomes of the selection.
use Rattle.std.specs.Prelude.{◌≡◌, ℕ, ℤ, pos, neg_ℤ, List, None, Some, unwrap_or, option_map}
use Rattle.std.specs.declared.option.Option.{Option}
use Rattle.list_model.specs.Ranges.{Range, only, cursor, anchor}
use Rattle.selection_set.specs.declared.sel.Sel.{Sel}
use Rattle.selection_set.specs.Inside.{range_of, IsInside}
use Rattle.selection_set.specs.Listing.{range_between}
use Rattle.window_view.specs.View.{View}
use Rattle.directions.specs.declared.direction.Direction.{Direction}
use Rattle.directions.specs.declared.direction.Direction.TheVariants.{Forward, Backward}
use Rattle.motion_keys.specs.declared.finding.Motion.{Motion}
use Rattle.motion_keys.specs.declared.finding.Motion.TheVariants.{Step, Line, Page, Word, Character, To, Along, Bracket}
use Rattle.motion_keys.specs.declared.finding.Reach.{Reach}
use Rattle.motion_keys.specs.declared.finding.Reach.TheVariants.{Select, Extend}
use Rattle.motion_keys.specs.Motions.{stepped, vertical}
use Rattle.motion_keys.specs.Words.{Ends, word_ends}
use Rattle.motion_keys.specs.Jumps.{to_char, bracket}
use Rattle.motion_keys.specs.Landmarks.{landmark, line_part}

-- so many lines down, or up
abbrev pub lines_along : Direction → ℕ → ℤ
lines_along Forward n = pos n
lines_along Backward n = neg_ℤ (pos n)

-- the range from one end to another
abbrev pub between_ends : Ends → Range
between_ends e = range_between e.anchor e.cursor

-- what a motion selects from a selection, for a window and a tab stop at each so many columns; None where it finds no
-- place
abbrev pub found : Motion → View → ℕ → List ℕ → Range → Option Range
found (Step direction) view tabstop text r = option_map only (stepped text r direction)
found (Line direction) view tabstop text r = vertical text r (lines_along direction 1) tabstop
found (Page direction) view tabstop text r = vertical text r (lines_along direction view.rows) tabstop
found (Word goal kind) view tabstop text r = option_map between_ends (word_ends goal kind text (cursor r))
found (Character search c) view tabstop text r = to_char text r c search
found (To place) view tabstop text r = option_map only (landmark text (cursor r) view place)
found (Along part) view tabstop text r = Some (line_part text r part)
found Bracket view tabstop text r = bracket text r

-- what becomes of a selection that a motion leads to another one: that one, or its own anchor with that one's cursor
-- and target
abbrev pub reached : Reach → Range → Range → Range
reached Select r target = target
reached Extend r target = record (range_between (anchor r) (cursor target)) { target = target.target }

-- what becomes of a selection by a motion; where the motion finds no place, it stays
abbrev pub moved : Motion → Reach → View → ℕ → List ℕ → Range → Range
moved motion reach view tabstop text r = unwrap_or (option_map (reached reach r) (found motion view tabstop text r)) r

-- both found nothing, or the selection that was found is inside the text and is the range there
abbrev pub IsFound : List ℕ → Option Sel → Option Range → Type 0
IsFound text None range = range ≡ None
IsFound text (Some sel) range = IsInside text sel × (range ≡ Some (range_of text sel))
