-- What a window shows of the lines of a text with selections.
use Rattle.std.specs.Prelude.{ℕ, ◌+◌, Bool, true, false, ◌==◌, ◌&&◌, nat_le, if◌then◌else◌, List, [], ◌∷◌, ◌++◌, length, take, drop, flat_map}
use Rattle.text_model.specs.Texts.{lines_of, joined}
use Rattle.list_model.specs.Ranges.{Range, Selected, cursor}
use Rattle.kak_text.specs.Cells.{cells_of}
use Rattle.window_view.specs.View.{View, text_columns}
use Rattle.kak_faces.specs.declared.face.Face.{Face}
use Rattle.kak_faces.specs.declared.standard.StandardFace.{StandardFace}
use Rattle.kak_faces.specs.declared.standard.StandardFace.TheVariants as name
use Rattle.kak_faces.specs.Faces.{merged}
use Rattle.face_texts.specs.declared.palette.Palette.{Palette}
use Rattle.face_texts.specs.Palettes.{palette_face}
use Rattle.highlight_paint.specs.Numbers.{Numbering, number_chars}
use Rattle.drawings.specs.declared.drawing.DrawnLine.{DrawnLine}
use Rattle.line_painting.specs.Atoms.{ShownChar, shown_in, atoms_of}
use Rattle.line_painting.specs.Cells.{char_drawn}

-- the name of the face of a selection, of the main one or another
abbrev pub selection_name : Bool → StandardFace
selection_name main = if main then name.PrimarySelection else name.SecondarySelection

-- the name of the face of a cursor, on a newline (10) or another character
abbrev pub cursor_name : Bool → ℕ → StandardFace
cursor_name main c =
    if c == 10
    then (if main then name.PrimaryCursorEol else name.SecondaryCursorEol)
    else (if main then name.PrimaryCursor else name.SecondaryCursor)

-- a face with another over it, where a test holds
abbrev pub over : Bool → Face → Face → Face
over true above face = merged face above
over false above face = face

-- a face with those of the selections over it, at an offset; n is the number of the first of them
abbrev pub under_selections : Palette → ℕ → ℕ → ℕ → List Range → Face → Face
under_selections palette o main n [] face = face
under_selections palette o main n (r ∷ rs) face =
    under_selections palette o main (n + 1) rs (over (nat_le r.low o && nat_le o r.high) (palette_face palette (selection_name (n == main))) face)

-- a face with those of the cursors over it, at an offset with that character
abbrev pub under_cursors : Palette → ℕ → ℕ → ℕ → ℕ → List Range → Face → Face
under_cursors palette o c main n [] face = face
under_cursors palette o c main n (r ∷ rs) face =
    under_cursors palette o c main (n + 1) rs (over (cursor r == o) (palette_face palette (cursor_name (n == main) c)) face)

-- the face of a character at an offset: that of its ground, those of the selections over it, and those of the cursors
abbrev pub face_at : Palette → Selected → ℕ → ℕ → Face → Face
face_at palette sels o c base =
    under_cursors palette o c sels.main 0 sels.list (under_selections palette o sels.main 0 sels.list base)

-- the faces of the characters of a line that begins at an offset, by their places on it and the ground of these
abbrev pub face_on : Palette → Selected → (ℕ → Face) → ℕ → ℕ → ℕ → Face
face_on palette sels base o i c = face_at palette sels (o + i) c (base i)

-- what a window shows of characters, of which the first has a number and begins at a display column: each in the face of
-- its number, as far as its cells are in the window
abbrev pub shown_from : ℕ → Bool → (ℕ → ℕ → Face) → View → ℕ → ℕ → List ℕ → List ShownChar
shown_from tabstop signs look view o column [] = []
shown_from tabstop signs look view o column (c ∷ cs) =
    shown_in (look o c) (char_drawn signs view column (cells_of c column tabstop) c)
    ++ shown_from tabstop signs look view (o + 1) (column + cells_of c column tabstop) cs

-- the part of a window that the text has, where so many number cells stand before it: it has the other columns, but at least
-- one
abbrev pub text_part : View → ℕ → View
text_part view gutter = record view { columns = text_columns view gutter }

-- how lines are drawn: after how many columns tab stops come, whether whitespace is drawn by signs, the part of the window
-- that the text has, the faces of names, the selections, the face under these at each place of each line, by the line's
-- number, the numbers before the lines, and the number of the main cursor's line
pub record Looks : Type 0 where
  pub tabstop : ℕ
  pub signs : Bool
  pub view : View
  pub palette : Palette
  pub sels : Selected
  pub base : ℕ → ℕ → Face
  pub numbers : List Numbering
  pub cursor_line : ℕ

-- the face of the number of a line, where the numbers mark the main cursor's line or don't
abbrev pub number_name : Bool → StandardFace
number_name true = name.LineNumberCursor
number_name false = name.LineNumbers

-- the number cells of a line in their face
abbrev pub number_cells : Palette → ℕ → ℕ → ℕ → Numbering → List ShownChar
number_cells palette cursor_line lines n row =
    shown_in (palette_face palette (number_name (row.marked && n == cursor_line))) (number_chars lines n row.separator)

-- all number cells of a line
abbrev pub numbers_shown : Looks → ℕ → ℕ → List ShownChar
numbers_shown looks lines n = flat_map (number_cells looks.palette looks.cursor_line lines n) looks.numbers

-- what the window shows of a line of that number, which begins at an offset
abbrev pub text_shown : Looks → ℕ → ℕ → List ℕ → List ShownChar
text_shown looks o n line =
    shown_from looks.tabstop looks.signs (face_on looks.palette looks.sels (looks.base n) o) looks.view 0 0 line

-- a line as it is drawn: its number cells, which aren't cut, and what the window shows of it
abbrev pub line_drawn : Looks → ℕ → ℕ → ℕ → List ℕ → DrawnLine
line_drawn looks lines o n line = record { atoms = atoms_of (numbers_shown looks lines n ++ text_shown looks o n line) }

-- lines as they are drawn, of which the first has a number and begins at an offset
abbrev pub drawn_from : Looks → ℕ → ℕ → ℕ → List (List ℕ) → List DrawnLine
drawn_from looks count o n [] = []
drawn_from looks count o n (line ∷ lines) = line_drawn looks count o n line ∷ drawn_from looks count (o + length line) (n + 1) lines

-- the lines of the window, as many as there are
abbrev pub drawn_lines : Looks → List ℕ → List DrawnLine
drawn_lines looks text =
    drawn_from looks (length (lines_of text)) (length (joined (take looks.view.top (lines_of text)))) looks.view.top (take looks.view.rows (drop looks.view.top (lines_of text)))
