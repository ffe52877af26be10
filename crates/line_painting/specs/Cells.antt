-- What a window shows of a character of a line.
use Rattle.std.specs.Prelude.{ℕ, ◌+◌, ◌-◌, min, max, Bool, true, false, ◌&&◌, ◌==◌, nat_lt, nat_le, if◌then◌else◌, List, [], ◌∷◌, replicate}
use Rattle.std.specs.Char.{is_control}
use Rattle.window_view.specs.View.{View, text_columns}

-- the display column right behind the text part of a window
abbrev pub right_of : View → ℕ
right_of view = view.left + text_columns view 0

-- whether a display column is one of the text part's
abbrev pub is_inside : View → ℕ → Bool
is_inside view column = nat_le view.left column && nat_lt column (right_of view)

-- how many of so many cells, the first at a display column, lie in the text part
abbrev pub cells_inside : View → ℕ → ℕ → ℕ
cells_inside view column cells = min (column + cells) (right_of view) - max column view.left

-- how a tab of so many cells is drawn where it is seen whole: as spaces (32), or, where whitespace is drawn by signs, as
-- `→` (0x2192) and spaces
abbrev pub tab_drawn : Bool → ℕ → List ℕ
tab_drawn false cells = replicate cells 32
tab_drawn true cells = 0x2192 ∷ replicate (cells - 1) 32

-- how a newline is drawn: as itself (10), or by its sign, `¬` (0xAC)
abbrev pub newline_drawn : Bool → ℕ
newline_drawn false = 10
newline_drawn true = 0xAC

-- how a space is drawn: as itself, or by its sign, `·` (0xB7)
abbrev pub space_drawn : Bool → ℕ
space_drawn false = 32
space_drawn true = 0xB7

-- how a character of so many cells is drawn where it is seen whole: a tab (9), a newline and a space as said above, another
-- control character as the replacement character, and all else as itself
abbrev pub whole_drawn : Bool → ℕ → ℕ → List ℕ
whole_drawn signs c cells =
    if c == 9 then tab_drawn signs cells
    else (if c == 10 then newline_drawn signs ∷ []
    else (if c == 32 then space_drawn signs ∷ []
    else (if is_control c then 0xFFFD ∷ [] else c ∷ [])))

-- what is drawn of a character that begins at a display column and has so many cells: without cells itself, where that
-- column is inside; else all of it where all its cells are inside, and where it is cut a space for each that is
abbrev pub char_drawn : Bool → View → ℕ → ℕ → ℕ → List ℕ
char_drawn signs view column cells c =
    if cells == 0 then (if is_inside view column then c ∷ [] else [])
    else (if cells_inside view column cells == cells then whole_drawn signs c cells
    else replicate (cells_inside view column cells) 32)
