-- Copies of selections on lines lower or higher, in the same columns.
use Rattle.std.specs.Prelude.{ℕ, ◌+◌, ◌-◌, Bool, ◌&&◌, nat_lt, nat_le, List, length, None, option_map}
use Rattle.std.specs.declared.option.Option.{Option}
use Rattle.text_model.specs.declared.coords.Coord.{Coord}
use Rattle.text_model.specs.Texts.{offset, coord_at, nth_line, line_count}
use Rattle.list_model.specs.Ranges.{Range}
use Rattle.motion_keys.specs.Extremes.{least_between}
use Rattle.directions.specs.declared.direction.Direction.{Direction}
use Rattle.directions.specs.declared.direction.Direction.TheVariants.{Forward, Backward}

-- the coordinate so many lines lower (`Forward`) or higher, in the same column
abbrev pub away : Direction → ℕ → Coord → Coord
away Forward d at = record { line = at.line + d; column = at.column }
away Backward d at = record { line = at.line - d; column = at.column }

-- whether that line is there, and has a character in that column; its newline is one
abbrev pub is_copy_there : Direction → List ℕ → ℕ → Coord → Bool
is_copy_there Forward text d at = nat_lt at.column (length (nth_line text (at.line + d)))
is_copy_there Backward text d at = nat_le d at.line && nat_lt at.column (length (nth_line text (at.line - d)))

-- how many lines a selection spans
abbrev pub span : List ℕ → Range → ℕ
span text r = (coord_at text r.high).line - (coord_at text r.low).line + 1

-- whether both ends of a selection have their places so many lines away
abbrev pub has_copy : Direction → List ℕ → Range → ℕ → Bool
has_copy direction text r d = is_copy_there direction text d (coord_at text r.low) && is_copy_there direction text d (coord_at text r.high)

-- the selection so many lines away, with its flag and without a target
abbrev pub copy_at : Direction → List ℕ → Range → ℕ → Range
copy_at direction text r d = record { low = offset text (away direction d (coord_at text r.low)); high = offset text (away direction d (coord_at text r.high)); turned = r.turned; target = None }

-- the copy of a selection: the least number of lines away, from the number that it spans on, at which it has one; no two
-- lines of a text are as many lines apart as there are lines
abbrev pub copy_of : Direction → List ℕ → Range → Option Range
copy_of direction text r = option_map (copy_at direction text r) (least_between (has_copy direction text r) (span text r) (line_count text))
