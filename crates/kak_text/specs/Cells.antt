-- How many cells characters take on the screen.
use Rattle.std.specs.Prelude.{ℕ, ◌+◌, ◌-◌, ◌%◌, false, ◌==◌, if◌then◌else◌, List, [], ◌∷◌, take, unwrap_or}
use Rattle.unicode_width.specs.Width.{char_width}

-- the cells of a character that is no tab: its width, or one where it has none, as control characters and the newline
-- among them
abbrev pub width_of : ℕ → ℕ
width_of c = unwrap_or (char_width false c) 1

-- the cells of a character that begins at a display column: a tab (9) reaches the next multiple of the tab stop
abbrev pub cells_of : ℕ → ℕ → ℕ → ℕ
cells_of c column tabstop = if c == 9 then tabstop - column % tabstop else width_of c

-- the display column that is reached from another by going over characters
abbrev pub column_behind : ℕ → ℕ → List ℕ → ℕ
column_behind tabstop column [] = column
column_behind tabstop column (c ∷ cs) = column_behind tabstop (column + cells_of c column tabstop) cs

-- the display column of a place in a line: the sum of the cells of the characters before it
abbrev pub display_column : List ℕ → ℕ → ℕ → ℕ
display_column line place tabstop = column_behind tabstop 0 (take place line)
