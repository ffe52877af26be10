-- The motions: where each leads from a selection of a text, and where it finds no place.
use Rattle.std.specs.Prelude.{ℕ, zero, suc, ◌+◌, ◌-◌, min, ℤ, pos, negsuc, Bool, true, false, nat_lt, if◌then◌else◌, List, length, None, Some, unwrap_or, option_map}
use Rattle.std.specs.declared.option.Option.{Option}
use Rattle.text_model.specs.declared.coords.Coord.{Coord}
use Rattle.text_model.specs.Texts.{offset, coord_at, nth_line, line_count}
use Rattle.list_model.specs.Ranges.{Range, cursor}
use Rattle.kak_text.specs.Cells.{display_column}
use Rattle.window_view.specs.Holding.{HoldsCell}
use Rattle.directions.specs.declared.direction.Direction.{Direction}
use Rattle.directions.specs.declared.direction.Direction.TheVariants.{Forward, Backward}
use Rattle.motion_keys.specs.Extremes.{least_between}

-- the offset after an offset of a text, or before it
abbrev pub offset_beside : List ℕ → ℕ → Direction → Option ℕ
offset_beside text o Forward = if nat_lt (o + 1) (length text) then Some (o + 1) else None
offset_beside text o Backward = if nat_lt 0 o then Some (o - 1) else None

-- the character after the cursor, or before it
abbrev pub stepped : List ℕ → Range → Direction → Option ℕ
stepped text r direction = offset_beside text (cursor r) direction

-- the line that a number of lines leads to from a line, among so many: down, at most to the last, or up, at most to the
-- first, where `negsuc n` stands for n + 1 lines up. Down from the last line and up from the first it leads to none, and
-- 0 leads to the line itself
abbrev pub line_by : ℕ → ℕ → ℤ → Option ℕ
line_by count line (pos zero) = Some line
line_by count line (pos (suc n)) = if nat_lt (line + 1) count then Some (min (line + suc n) (count - 1)) else None
line_by count line (negsuc n) = if nat_lt 0 line then Some (line - suc n) else None

-- the column of the character of a line that holds a cell: the first that ends behind it. None where the line ends before
abbrev pub held_at : List ℕ → ℕ → ℕ → Option ℕ
held_at line cell tabstop = least_between (λ n. nat_lt cell (display_column line (n + 1) tabstop)) 0 (length line)

-- the column of a line at which a vertical move with a target arrives: the character that holds that cell; beyond the
-- line, the last character before its newline, or the newline where it has no other
abbrev pub landing : List ℕ → ℕ → ℕ → ℕ
landing line target tabstop = unwrap_or (held_at line target tabstop) (length line - 2)

-- the display column of a place of a text
abbrev pub column_of : List ℕ → Coord → ℕ → ℕ
column_of text at tabstop = display_column (nth_line text at.line) at.column tabstop

-- what a selection aims at: its target, or else the display column of its cursor
abbrev pub aim : List ℕ → Range → ℕ → ℕ
aim text r tabstop = unwrap_or r.target (column_of text (coord_at text (cursor r)) tabstop)

-- the selection of one character with a target
abbrev pub aimed_at : ℕ → ℕ → Range
aimed_at target o = record { low = o; high = o; turned = false; target = Some target }

-- where a vertical move with a target arrives on a line
abbrev pub landed : List ℕ → ℕ → ℕ → ℕ → Range
landed text target tabstop line = aimed_at target (offset text (record { line = line; column = landing (nth_line text line) target tabstop }))

-- the selection some lines below the cursor, or above it, with a tab stop at each so many columns
abbrev pub vertical : List ℕ → Range → ℤ → ℕ → Option Range
vertical text r by tabstop = option_map (landed text (aim text r tabstop) tabstop) (line_by (line_count text) (coord_at text (cursor r)).line by)

-- the character that was found holds the cell, or none was found and no character holds it
abbrev pub IsHolder : List ℕ → ℕ → ℕ → Option ℕ → Type 0
IsHolder line cell tabstop None = (n : ℕ) → ¬ HoldsCell line tabstop n cell
IsHolder line cell tabstop (Some n) = HoldsCell line tabstop n cell

-- what the definition finds holds the cell
abbrev pub HoldersAreFound : Type 0
HoldersAreFound = (line : List ℕ) (cell tabstop : ℕ) → IsHolder line cell tabstop (held_at line cell tabstop)
