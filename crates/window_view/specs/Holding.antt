-- Which character of a line holds a cell of the screen.
use Rattle.std.specs.Prelude.{◌≡◌, ℕ, ◌+◌, ◌<◌, ◌≤◌, List, length}
use Rattle.kak_text.specs.Cells.{display_column}

-- a character holds a cell: its first cell isn't behind that one, and the next character begins behind it. A character
-- without cells holds none
pub record HoldsCell (line : List ℕ) (tabstop n cell : ℕ) : Type 0 where
  pub inside : n < length line
  pub begins : display_column line n tabstop ≤ cell
  pub ends : cell < display_column line (n + 1) tabstop

-- no two characters hold one cell
abbrev pub CellsHaveOneHolder : Type 0
CellsHaveOneHolder = (line : List ℕ) (tabstop m n cell : ℕ) → HoldsCell line tabstop m cell → HoldsCell line tabstop n cell → m ≡ n
