-- Texts as lists of characters, their lines, and the offsets and coordinates of their places.
use Rattle.std.specs.Prelude.{◌≡◌, ◌≢◌, ℕ, ◌+◌, ◌-◌, ◌<◌, ◌≤◌, Bool, ◌==◌, if◌then◌else◌, ◌⊎◌, List, [], ◌∷◌, ◌++◌, length, take, slice_index, slice_index_or}
use Rattle.text_model.specs.declared.TheConstants.{MAX_CHARS}
use Rattle.text_model.specs.declared.coords.Coord.{Coord}
use Rattle.text_model.specs.Coords.{origin, reached}

-- whether the last character is a newline (10); no characters have none
abbrev pub ends_in_newline : List ℕ → Bool
ends_in_newline s = slice_index s (length s - 1) == 10

-- a text: not empty, and its last character is a newline
pub record IsText (text : List ℕ) : Type 0 where
  pub some : 0 < length text
  pub ended : slice_index text (length text - 1) ≡ 10

-- a text that can be kept: its length is within the limit
pub record IsStored (text : List ℕ) : Type 0 where
  pub is_text : IsText text
  pub small : length text ≤ MAX_CHARS

-- a line: not empty, its last character is a newline, and no other is
pub record IsLine (line : List ℕ) : Type 0 where
  pub some : 0 < length line
  pub ended : slice_index line (length line - 1) ≡ 10
  pub only : (k : ℕ) → k + 1 < length line → slice_index line k ≢ 10

-- a character before the first of some parts
abbrev pub onto_first : ℕ → List (List ℕ) → List (List ℕ)
onto_first c [] = (c ∷ []) ∷ []
onto_first c (l ∷ ls) = (c ∷ l) ∷ ls

-- the parts of a text up to and with each newline
abbrev pub lines_of : List ℕ → List (List ℕ)
lines_of [] = []
lines_of (c ∷ cs) = if c == 10 then (c ∷ []) ∷ lines_of cs else onto_first c (lines_of cs)

-- lines one after another
abbrev pub joined : List (List ℕ) → List ℕ
joined [] = []
joined (l ∷ ls) = l ++ joined ls

-- how many lines a text has
abbrev pub line_count : List ℕ → ℕ
line_count text = length (lines_of text)

-- the line of that number, with its newline; none has no characters
abbrev pub nth_line : List ℕ → ℕ → List ℕ
nth_line text n = slice_index_or (lines_of text) n []

-- the offset of a coordinate: the characters of the lines before, and the column
abbrev pub offset : List ℕ → Coord → ℕ
offset text at = length (joined (take at.line (lines_of text))) + at.column

-- the coordinate of an offset, reached by going over the characters before it
abbrev pub coord_at : List ℕ → ℕ → Coord
coord_at text o = reached origin (take o text)

-- a place of a text: the line is there, and so is the column in it
pub record IsPlace (text : List ℕ) (at : Coord) : Type 0 where
  pub on_line : at.line < length (lines_of text)
  pub in_line : at.column < length (slice_index_or (lines_of text) at.line [])

-- the coordinate behind the last character
abbrev pub end_coord : List ℕ → Coord
end_coord text = record { line = line_count text; column = 0 }

-- a place of a text, or its end
abbrev pub IsPlaceOrEnd : List ℕ → Coord → Type 0
IsPlaceOrEnd text at = IsPlace text at ⊎ (at ≡ end_coord text)

-- the offset of the last character
abbrev pub last_place : List ℕ → ℕ
last_place text = length text - 1
