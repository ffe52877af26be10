-- Which character of a text a place of a window means.
use Rattle.std.specs.Prelude.{ℕ, ◌+◌, ◌-◌, min, nat_lt, if◌then◌else◌, List, length, unwrap_or}
use Rattle.text_model.specs.declared.coords.Coord.{Coord}
use Rattle.text_model.specs.Texts.{offset, nth_line, line_count}
use Rattle.window_view.specs.View.{View}
use Rattle.motion_keys.specs.Motions.{held_at}

-- the line of a text that a line of a window shows, or the text's last one where that shows none
abbrev pub line_shown : List ℕ → View → ℕ → ℕ
line_shown text view line = min (view.top + line) (line_count text - 1)

-- the cell of a line that a column of a window shows, where so many cells stand before the text; a column of these means the
-- first one behind them
abbrev pub cell_shown : View → ℕ → ℕ → ℕ
cell_shown view gutter column = if nat_lt column gutter then view.left else view.left + (column - gutter)

-- the column of the character of a line that holds a cell, or of its newline where none holds it
abbrev pub column_holding : List ℕ → ℕ → ℕ → ℕ
column_holding line cell tabstop = unwrap_or (held_at line cell tabstop) (length line - 1)

-- the coordinate in a text of the character at a place of a window
abbrev pub coord_shown : List ℕ → View → ℕ → ℕ → Coord → Coord
coord_shown text view gutter tabstop at = record {
  line = line_shown text view at.line;
  column = column_holding (nth_line text (line_shown text view at.line)) (cell_shown view gutter at.column) tabstop;
}

-- its offset
abbrev pub offset_shown : List ℕ → View → ℕ → ℕ → Coord → ℕ
offset_shown text view gutter tabstop at = offset text (coord_shown text view gutter tabstop at)
