-- Laws of atoms and of lines, each proved as the contract of a function of `laws`.
use Rattle.std.specs.Prelude.{◌≡◌, ℕ, ◌+◌, ◌-◌, ◌<◌, ◌≤◌, Bool, true, false, ◌==◌, ◌&&◌, nat_le, if◌then◌else◌, List, [], ◌∷◌, ◌++◌, length, map, filter, take, drop, slice_index, slice_get, Some}
use Rattle.std.specs.Char.{is_control}
use Rattle.std.specs.List.{AllByRecursion, range_with_len}
use Rattle.kak_text.specs.Cells.{cells_of, column_behind, display_column}
use Rattle.window_view.specs.View.{View, text_columns}
use Rattle.window_view.specs.Holding.{HoldsCell}
use Rattle.kak_faces.specs.declared.face.Face.{Face}
use Rattle.kak_faces.specs.Same.{same_face}
use Rattle.drawings.specs.declared.drawing.Atom.{Atom}
use Rattle.line_painting.specs.Atoms.{ShownChar, shown_in}
use Rattle.line_painting.specs.Cells.{right_of, is_inside, cells_inside, newline_drawn, space_drawn, whole_drawn}
use Rattle.line_painting.specs.Lines.{shown_from}

-- the characters of atoms, each in its face
abbrev pub spelled : List Atom → List ShownChar
spelled [] = []
spelled (a ∷ atoms) = shown_in a.face a.contents ++ spelled atoms

-- maximal runs of one face: no atom is empty, and neighbours have different faces
abbrev pub AreRuns : List Atom → Type 0
AreRuns [] = Unit {0}
AreRuns (a ∷ []) = 0 < length a.contents
AreRuns (a ∷ b ∷ atoms) = (0 < length a.contents) × (same_face a.face b.face ≡ false) × AreRuns (b ∷ atoms)

-- a character that has one cell wherever it begins and the tab stops are, and is drawn as itself
pub record IsPlainChar (signs : Bool) (c : ℕ) : Type 0 where
  pub one_cell : (column tabstop : ℕ) → cells_of c column tabstop ≡ 1
  pub itself : whole_drawn signs c 1 ≡ c ∷ []

-- characters of which the first has a number, each as itself in the face of its number
abbrev pub faced_from : (ℕ → ℕ → Face) → ℕ → List ℕ → List ShownChar
faced_from look o [] = []
faced_from look o (c ∷ cs) = record { char = c; face = look o c } ∷ faced_from look (o + 1) cs

-- of a line of plain characters a window shows as many as it has columns, from its first column on
abbrev pub PlainLinesAreCut : Type 0
PlainLinesAreCut = (tabstop : ℕ) (signs : Bool) (look : ℕ → ℕ → Face) (view : View) (o : ℕ) (line : List ℕ) → AllByRecursion (IsPlainChar signs) line
    → shown_from tabstop signs look view o 0 line ≡ take (text_columns view 0) (drop view.left (faced_from look o line))

-- the graphic characters of ASCII, and, where whitespace isn't drawn by signs, the space and the newline
pub record AsciiIsPlain : Type 0 where
  pub graphic : (signs : Bool) (c : ℕ) → 0x21 ≤ c → c < 0x7F → IsPlainChar signs c
  pub space : IsPlainChar false 32
  pub newline : IsPlainChar false 10

-- the characters that are shown, without their faces
abbrev pub shown_chars : List ShownChar → List ℕ
shown_chars shown = map (λ s. s.char) shown

-- a character in its face that holds a cell of what is shown
pub record ShowsInCell (tabstop : ℕ) (shown : List ShownChar) (cell : ℕ) (s : ShownChar) : Type 0 where
  pub place : ℕ
  pub holds : HoldsCell (shown_chars shown) tabstop place cell
  pub is : slice_get shown place ≡ Some s

-- a character in its face that begins at a column of what is shown
pub record ShowsAtColumn (tabstop : ℕ) (shown : List ShownChar) (column : ℕ) (s : ShownChar) : Type 0 where
  pub place : ℕ
  pub begins : display_column (shown_chars shown) place tabstop ≡ column
  pub is : slice_get shown place ≡ Some s

-- what stands in a cell of a tab, its first one or another: a space, or the sign (0x2192) in the first one
abbrev pub tab_look : Bool → Bool → ℕ
tab_look signs first = if signs && first then 0x2192 else 32

-- what stands in a cell of a character, its first one or another: for a tab (9), a newline (10) and a space (32) themselves or
-- their signs, for another control character the replacement character, and for all else itself
abbrev pub look_of : Bool → Bool → ℕ → ℕ
look_of signs first c =
    if c == 9 then tab_look signs first
    else (if c == 10 then newline_drawn signs else (if c == 32 then space_drawn signs else (if is_control c then 0xFFFD else c)))

-- what a window shows in a cell of a character that begins and ends at these display columns: what stands there, or a space
-- where an edge of the window cuts the character
abbrev pub seen_as : Bool → View → ℕ → ℕ → ℕ → ℕ → ℕ
seen_as signs view begin behind cell c = if nat_le view.left begin && nat_le behind (right_of view) then look_of signs (cell == begin) c else 32

-- a character in the face of the n-th one of a line whose first has a number
abbrev pub in_face_of : (ℕ → ℕ → Face) → ℕ → List ℕ → ℕ → ℕ → ShownChar
in_face_of look o line n c = record { char = c; face = look (o + n) (slice_index line n) }

-- what a window shows in a cell of the n-th character of a line
abbrev pub seen_of : ℕ → Bool → (ℕ → ℕ → Face) → View → ℕ → List ℕ → ℕ → ℕ → ShownChar
seen_of tabstop signs look view o line n cell =
    in_face_of look o line n (seen_as signs view (display_column line n tabstop) (display_column line (n + 1) tabstop) cell (slice_index line n))

-- the n-th character of a line, as itself
abbrev pub itself_of : (ℕ → ℕ → Face) → ℕ → List ℕ → ℕ → ShownChar
itself_of look o line n = in_face_of look o line n (slice_index line n)

-- whether a character has no cells
abbrev pub has_no_cells : ℕ → ℕ → Bool
has_no_cells tabstop c = cells_of c 0 tabstop == 0

-- whether the n-th character of a line has none, and begins in a window
abbrev pub is_mark_inside : ℕ → View → List ℕ → ℕ → Bool
is_mark_inside tabstop view line n = has_no_cells tabstop (slice_index line n) && is_inside view (display_column line n tabstop)

-- what a window shows of a line, cell by cell, with the tab stops of so many columns and with whitespace as signs or not;
-- `look` is the face of each character by its number, from that of the first one on
pub record WindowsShowCells (tabstop : ℕ) (signs : Bool) : Type 0 where
  -- each cell of the window shows the character of the line that holds it
  pub holder : (look : ℕ → ℕ → Face) (view : View) (o : ℕ) (line : List ℕ) (n cell : ℕ) → HoldsCell line tabstop n cell → view.left ≤ cell → cell < right_of view
      → ShowsInCell tabstop (shown_from tabstop signs look view o 0 line) (cell - view.left) (seen_of tabstop signs look view o line n cell)
  -- there are as many cells as of the line's cells lie in the window
  pub width : (look : ℕ → ℕ → Face) (view : View) (o : ℕ) (line : List ℕ)
      → column_behind tabstop 0 (shown_chars (shown_from tabstop signs look view o 0 line)) ≡ cells_inside view 0 (column_behind tabstop 0 line)
  -- the characters without cells are those of the line that begin in the window, in their order
  pub marks : (look : ℕ → ℕ → Face) (view : View) (o : ℕ) (line : List ℕ)
      → filter (λ s. has_no_cells tabstop s.char) (shown_from tabstop signs look view o 0 line) ≡ map (itself_of look o line) (filter (is_mark_inside tabstop view line) (range_with_len 0 (length line)))
  -- and each of them is shown where it begins
  pub mark : (look : ℕ → ℕ → Face) (view : View) (o : ℕ) (line : List ℕ) (n : ℕ) → n < length line → is_mark_inside tabstop view line n ≡ true
      → ShowsAtColumn tabstop (shown_from tabstop signs look view o 0 line) (display_column line n tabstop - view.left) (itself_of look o line n)
