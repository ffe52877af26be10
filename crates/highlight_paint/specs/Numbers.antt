-- The number cells before the lines of a text.
use Rattle.std.specs.Prelude.{ℕ, ◌+◌, ◌-◌, ◌^◌, min, Bool, true, false, List, [], ◌∷◌, ◌++◌, length, replicate, decimal}
use Rattle.std.specs.List.{list_any}
use Rattle.kak_text.specs.Cells.{column_behind}
use Rattle.highlight_paint.specs.declared.numbering.LineNumbers.{LineNumbers}
use Rattle.highlight_paint.specs.Painters.{Paints, Fills, Matches, Numbers, MarksLine, MarksColumn, ShowsWhitespaces, HoldsOthers}

-- numbers of lines that stand before them: whether that of the main cursor's line is seen in another face, and what stands
-- behind each
pub record Numbering : Type 0 where
  pub marked : Bool
  pub separator : List ℕ

abbrev pub numbering : LineNumbers → Numbering
numbering row = record { marked = row.marked; separator = row.separator.now }

-- the numbers that a highlighter puts before lines, if it does
abbrev pub painter_numbers : Paints → List Numbering
painter_numbers (Numbers marked separator) = record { marked = marked; separator = separator } ∷ []
painter_numbers (Fills text) = []
painter_numbers (Matches source groups) = []
painter_numbers (MarksLine n text) = []
painter_numbers (MarksColumn n text) = []
painter_numbers ShowsWhitespaces = []
painter_numbers HoldsOthers = []

-- those of some highlighters, one behind the other
abbrev pub numbers_of : List Paints → List Numbering
numbers_of [] = []
numbers_of (p ∷ ps) = painter_numbers p ++ numbers_of ps

-- whether a highlighter shows whitespace by signs
abbrev pub draws_signs : Paints → Bool
draws_signs ShowsWhitespaces = true
draws_signs _ = false

-- whether one of them does
abbrev pub has_signs : List Paints → Bool
has_signs paints = list_any draws_signs paints

-- the number cells of the n-th line from 0 of a text that has so many: its number, right aligned to the digits of the number
-- of lines, and what stands behind it
abbrev pub number_chars : ℕ → ℕ → List ℕ → List ℕ
number_chars lines n separator =
    replicate (length (decimal lines) - length (decimal (n + 1))) 32 ++ (decimal (n + 1) ++ separator)

-- the display column behind the number cells that begin at one, by what a highlighter does
abbrev pub painter_behind : ℕ → ℕ → ℕ → Paints → ℕ
painter_behind tabstop lines column (Numbers marked separator) = column_behind tabstop (column + length (decimal lines)) separator
painter_behind tabstop lines column (Fills text) = column
painter_behind tabstop lines column (Matches source groups) = column
painter_behind tabstop lines column (MarksLine n text) = column
painter_behind tabstop lines column (MarksColumn n text) = column
painter_behind tabstop lines column ShowsWhitespaces = column
painter_behind tabstop lines column HoldsOthers = column

-- the same by some of them: the number cells of each stand behind those of the one before it
abbrev pub numbers_behind : ℕ → ℕ → ℕ → List Paints → ℕ
numbers_behind tabstop lines column [] = column
numbers_behind tabstop lines column (p ∷ ps) = numbers_behind tabstop lines (painter_behind tabstop lines column p) ps

-- how many cells the number cells of a text take, which stands still at 2^31
abbrev pub gutter_of : ℕ → ℕ → List Paints → ℕ
gutter_of tabstop lines paints = min (numbers_behind tabstop lines 0 paints) (2 ^ 31)
