-- Worked examples of characters, atoms and lines as they are drawn, which hold by computation.
use Rattle.std.specs.Prelude.{◌≡◌, ℕ, true, false, None, List, [], ◌∷◌, ◌==◌, if◌then◌else◌, codes}
use Rattle.list_model.specs.Ranges.{Range, Selected, only}
use Rattle.window_view.specs.View.{View}
use Rattle.kak_faces.specs.declared.colour.NamedColour.{NamedColour}
use Rattle.kak_faces.specs.declared.colour.NamedColour.TheVariants as named
use Rattle.kak_faces.specs.declared.face.Face.{Face}
use Rattle.kak_faces.specs.declared.standard.StandardFace.TheVariants as standard
use Rattle.kak_faces.specs.Standard.{no_attributes, plain_face, default_face, standard_face}
use Rattle.face_texts.specs.declared.palette.Palette.{Palette}
use Rattle.highlight_paint.specs.Numbers.{Numbering}
use Rattle.drawings.specs.declared.drawing.Atom.{Atom}
use Rattle.drawings.specs.declared.drawing.DrawnLine.{DrawnLine}
use Rattle.line_painting.specs.Cells.{char_drawn}
use Rattle.line_painting.specs.Lines.{face_on, text_part, Looks, drawn_lines}
use Rattle.line_painting.specs.Laws.{seen_of}
use Rattle.line_painting.specs.Painting.{alone}

-- an atom of ASCII characters in two colours
abbrev pub atom : List ℕ → NamedColour → NamedColour → Atom
atom contents fg bg = record { contents = contents; face = plain_face fg bg }

-- an atom of ASCII characters in the default face
abbrev pub bare_atom : List ℕ → Atom
bare_atom contents = record { contents = contents; face = default_face }

-- a line of atoms
abbrev pub atoms_line : List Atom → DrawnLine
atoms_line atoms = record { atoms = atoms }

-- an atom under the main cursor
abbrev pub cursor_atom : List ℕ → Atom
cursor_atom contents = atom contents named.Black named.White

-- a straight selection
abbrev pub between : ℕ → ℕ → Range
between a b = record { low = a; high = b; turned = false; target = None }

-- a window at the start of a text, and one of another place and size
abbrev pub whole : View
whole = record { top = 0; left = 0; rows = 24; columns = 80 }

abbrev pub narrow : ℕ → ℕ → View
narrow top left = record { top = top; left = left; rows = 2; columns = 3 }

-- the characters of a window of 3 columns whose first is that display column
abbrev pub in_narrow : ℕ → ℕ → ℕ → ℕ → List ℕ
in_narrow left column cells c = char_drawn false (narrow 0 left) column cells c

-- of single characters, of which the column, the cells and the character are said
pub record CharExamples : Type 0 where
  pub letter_inside : in_narrow 0 2 1 0x61 ≡ 0x61 ∷ []
  pub letter_behind : in_narrow 0 3 1 0x61 ≡ []
  pub letter_before : in_narrow 4 3 1 0x61 ≡ []
  pub newline_inside : in_narrow 0 2 1 10 ≡ 10 ∷ []
  pub control_inside : in_narrow 0 2 1 0x1B ≡ 0xFFFD ∷ []
  pub late_control_inside : in_narrow 0 2 1 0x85 ≡ 0xFFFD ∷ []
  pub control_behind : in_narrow 0 3 1 0x1B ≡ []
  pub wide_inside : in_narrow 0 1 2 0x6F22 ≡ 0x6F22 ∷ []
  pub wide_cut_at_its_end : in_narrow 0 2 2 0x6F22 ≡ 32 ∷ []
  pub wide_cut_at_its_begin : in_narrow 1 0 2 0x6F22 ≡ 32 ∷ []
  pub wide_behind : in_narrow 0 3 2 0x6F22 ≡ []
  pub wide_before : in_narrow 2 0 2 0x6F22 ≡ []
  pub tab_inside : in_narrow 6 6 2 9 ≡ 32 ∷ 32 ∷ []
  pub tab_cut_at_both_sides : in_narrow 2 0 8 9 ≡ 32 ∷ 32 ∷ 32 ∷ []
  pub mark_at_the_first_column : in_narrow 1 1 0 0x0301 ≡ 0x0301 ∷ []
  pub mark_before_it : in_narrow 2 1 0 0x0301 ≡ []
  pub mark_at_the_last_column : in_narrow 0 2 0 0x0301 ≡ 0x0301 ∷ []
  pub mark_right_behind : in_narrow 0 3 0 0x0301 ≡ []

-- the same where whitespace is drawn by signs
abbrev pub signed : ℕ → ℕ → ℕ → ℕ → List ℕ
signed left column cells c = char_drawn true (narrow 0 left) column cells c

-- whitespace by signs
pub record SignExamples : Type 0 where
  pub space : signed 0 2 1 32 ≡ 0xB7 ∷ []
  pub other_space : signed 0 2 1 0xA0 ≡ 0xA0 ∷ []
  pub newline : signed 0 2 1 10 ≡ 0xAC ∷ []
  pub newline_behind : signed 0 3 1 10 ≡ []
  pub tab : signed 6 6 2 9 ≡ 0x2192 ∷ 32 ∷ []
  pub narrow_tab : signed 0 2 1 9 ≡ 0x2192 ∷ []
  -- a tab that is cut at a side has no sign, also where its first cell is seen
  pub tab_cut_at_its_begin : signed 7 6 2 9 ≡ 32 ∷ []
  pub tab_cut_at_its_end : signed 0 2 6 9 ≡ 32 ∷ []
  pub letter : signed 0 2 1 0x61 ≡ 0x61 ∷ []
  pub control : signed 0 2 1 0x1B ≡ 0xFFFD ∷ []
  pub mark : signed 0 2 0 0x0301 ≡ 0x0301 ∷ []

-- the faces that are set from the start
abbrev pub first_palette : Palette
first_palette = record {
  default = standard_face standard.Default;
  buffer_padding = standard_face standard.BufferPadding;
  primary_selection = standard_face standard.PrimarySelection;
  secondary_selection = standard_face standard.SecondarySelection;
  primary_cursor = standard_face standard.PrimaryCursor;
  secondary_cursor = standard_face standard.SecondaryCursor;
  primary_cursor_eol = standard_face standard.PrimaryCursorEol;
  secondary_cursor_eol = standard_face standard.SecondaryCursorEol;
  status_line = standard_face standard.StatusLine;
  status_cursor = standard_face standard.StatusCursor;
  prompt = standard_face standard.Prompt;
  error = standard_face standard.Error;
  information = standard_face standard.Information;
  line_numbers = standard_face standard.LineNumbers;
  line_number_cursor = standard_face standard.LineNumberCursor;
  whitespace = standard_face standard.Whitespace;
}

-- how lines are drawn in them, with nothing below the selections and no numbers
abbrev pub plain_looks : ℕ → Selected → View → Looks
plain_looks tabstop sels view = record {
  tabstop = tabstop;
  signs = false;
  view = view;
  palette = first_palette;
  sels = sels;
  base = λ n i. default_face;
  numbers = [];
  cursor_line = 0;
}

-- the lines of a window, with a tab stop at each eighth column
abbrev pub drawn_at_eighths : List ℕ → Selected → View → List DrawnLine
drawn_at_eighths text sels view = drawn_lines (plain_looks 8 sels view) text

-- of lines
pub record LineExamples : Type 0 where
  pub tab : drawn_at_eighths (codes "a\tb\n") (alone true (only 0)) whole ≡ atoms_line (cursor_atom (codes "a") ∷ bare_atom (codes "       b\n") ∷ []) ∷ []
  pub cursor_on_a_tab : drawn_at_eighths (codes "a\tb\n") (alone true (only 1)) whole ≡ atoms_line (bare_atom (codes "a") ∷ cursor_atom (codes "       ") ∷ bare_atom (codes "b\n") ∷ []) ∷ []
  -- the cursor, on the tab, reaches into the window from the left
  pub tab_cut_at_the_left : drawn_at_eighths (codes "a\tbc\n") (alone true (only 1)) (narrow 0 6) ≡ atoms_line (cursor_atom (codes "  ") ∷ bare_atom (codes "b") ∷ []) ∷ []
  pub tab_cut_at_the_right : drawn_at_eighths (codes "a\tb\n") (alone true (only 1)) (narrow 0 0) ≡ atoms_line (bare_atom (codes "a") ∷ cursor_atom (codes "  ") ∷ []) ∷ []
  pub newline_behind_a_tab : drawn_at_eighths (codes "\t\n") (alone true (only 1)) whole ≡ atoms_line (bare_atom (codes "        ") ∷ atom (codes "\n") named.Black named.Cyan ∷ []) ∷ []
  pub wide : drawn_at_eighths (0x6F22 ∷ 0x61 ∷ 10 ∷ []) (alone true (only 1)) (narrow 0 0) ≡ atoms_line (bare_atom (0x6F22 ∷ []) ∷ cursor_atom (codes "a") ∷ []) ∷ []
  pub wide_cut_at_the_left : drawn_at_eighths (0x6F22 ∷ 0x61 ∷ 10 ∷ []) (alone true (only 0)) (narrow 0 1) ≡ atoms_line (cursor_atom (codes " ") ∷ bare_atom (codes "a\n") ∷ []) ∷ []
  pub wide_cut_at_the_right : drawn_at_eighths (0x61 ∷ 0x62 ∷ 0x6F22 ∷ 10 ∷ []) (alone true (between 1 2)) (narrow 0 0)
      ≡ atoms_line (bare_atom (codes "a") ∷ atom (codes "b") named.White named.Blue ∷ cursor_atom (codes " ") ∷ []) ∷ []
  pub cursor_on_a_mark : drawn_at_eighths (0x65 ∷ 0x0301 ∷ 0x61 ∷ 10 ∷ []) (alone true (only 1)) (narrow 0 0)
      ≡ atoms_line (bare_atom (0x65 ∷ []) ∷ cursor_atom (0x0301 ∷ []) ∷ bare_atom (0x61 ∷ 10 ∷ []) ∷ []) ∷ []
  -- the mark begins at the window's first display column, and its letter left of it
  pub mark_at_the_left : drawn_at_eighths (0x65 ∷ 0x0301 ∷ 0x61 ∷ 10 ∷ []) (alone true (only 2)) (narrow 0 1)
      ≡ atoms_line (bare_atom (0x0301 ∷ []) ∷ cursor_atom (0x61 ∷ []) ∷ bare_atom (10 ∷ []) ∷ []) ∷ []
  -- the last letter fills the window, and its mark begins right behind it
  pub mark_at_the_right : drawn_at_eighths (0x61 ∷ 0x62 ∷ 0x65 ∷ 0x0301 ∷ 10 ∷ []) (alone true (only 0)) (narrow 0 0) ≡ atoms_line (cursor_atom (codes "a") ∷ bare_atom (codes "be") ∷ []) ∷ []
  pub control : drawn_at_eighths (0x61 ∷ 0x1B ∷ 0x62 ∷ 10 ∷ []) (alone true (only 0)) whole ≡ atoms_line (cursor_atom (codes "a") ∷ bare_atom (0xFFFD ∷ 0x62 ∷ 10 ∷ []) ∷ []) ∷ []

-- the faces of a line with the cursor on a character
abbrev pub cursor_looks : ℕ → ℕ → ℕ → Face
cursor_looks o = face_on first_palette (alone true (only o)) (λ i. default_face) 0

-- what a window of 3 columns whose first is that display column shows in a cell of the n-th character of a line
abbrev pub seen_in_narrow : ℕ → List ℕ → ℕ → ℕ → ℕ
seen_in_narrow left line n cell = (seen_of 8 false (cursor_looks 0) (narrow 0 left) 0 line n cell).char

-- the same where whitespace is drawn by signs
abbrev pub sign_in_narrow : ℕ → List ℕ → ℕ → ℕ → ℕ
sign_in_narrow left line n cell = (seen_of 8 true (cursor_looks 0) (narrow 0 left) 0 line n cell).char

-- of the cells of the characters of lines
pub record SeenExamples : Type 0 where
  pub letter : seen_in_narrow 0 (codes "abc\n") 1 1 ≡ 0x62
  pub whole_tab : seen_in_narrow 7 (codes "1234567\tb\n") 7 7 ≡ 32
  pub tab_cut_at_the_left : seen_in_narrow 6 (codes "a\tb\n") 1 6 ≡ 32
  pub letter_behind_a_cut_tab : seen_in_narrow 6 (codes "a\tb\n") 2 8 ≡ 0x62
  pub wide_inside : seen_in_narrow 0 (0x61 ∷ 0x6F22 ∷ 10 ∷ []) 1 2 ≡ 0x6F22
  pub wide_cut_at_the_right : seen_in_narrow 0 (0x61 ∷ 0x62 ∷ 0x6F22 ∷ 10 ∷ []) 2 2 ≡ 32
  -- the mark takes no cell, so the character behind it ends where the window does
  pub wide_behind_a_mark : seen_in_narrow 0 (0x65 ∷ 0x0301 ∷ 0x6F22 ∷ 10 ∷ []) 2 1 ≡ 0x6F22
  pub control : seen_in_narrow 0 (0x61 ∷ 0x1B ∷ 10 ∷ []) 1 1 ≡ 0xFFFD
  pub newline : seen_in_narrow 0 (codes "ab\n") 2 2 ≡ 10
  pub face_of_the_cursor : seen_of 8 false (cursor_looks 1) (narrow 0 0) 0 (codes "abc\n") 1 1 ≡ record { char = 0x62; face = plain_face named.Black named.White }
  -- signs
  pub space_sign : sign_in_narrow 0 (codes "a c\n") 1 1 ≡ 0xB7
  pub newline_sign : sign_in_narrow 0 (codes "ab\n") 2 2 ≡ 0xAC
  pub first_of_a_tab : sign_in_narrow 6 (codes "123456\tb\n") 6 6 ≡ 0x2192
  pub second_of_a_tab : sign_in_narrow 6 (codes "123456\tb\n") 6 7 ≡ 32
  pub first_of_a_cut_tab : sign_in_narrow 0 (codes "a\tb\n") 1 1 ≡ 32

-- a turned selection
abbrev pub turned_between : ℕ → ℕ → Range
turned_between a b = record (between a b) { turned = true }

-- a list of two selections, and of three
abbrev pub two : Range → Range → ℕ → Selected
two r s main = record { list = r ∷ s ∷ []; main = main }

abbrev pub three : Range → Range → Range → ℕ → Selected
three r s t main = record { list = r ∷ s ∷ t ∷ []; main = main }

-- an atom of the main selection, and of another
abbrev pub in_main : List ℕ → Atom
in_main contents = atom contents named.White named.Blue

abbrev pub in_other : List ℕ → Atom
in_other contents = atom contents named.Black named.Blue

-- of lists of selections
pub record ListExamples : Type 0 where
  pub first_is_main : drawn_at_eighths (codes "abcdef\n") (two (between 0 1) (between 3 4) 0) whole
      ≡ atoms_line (in_main (codes "a") ∷ cursor_atom (codes "b") ∷ bare_atom (codes "c") ∷ in_other (codes "d") ∷ cursor_atom (codes "e") ∷ bare_atom (codes "f\n") ∷ []) ∷ []
  pub turned_other : drawn_at_eighths (codes "abcdef\n") (two (turned_between 0 2) (between 4 4) 1) whole
      ≡ atoms_line (cursor_atom (codes "a") ∷ in_other (codes "bc") ∷ bare_atom (codes "d") ∷ cursor_atom (codes "e") ∷ bare_atom (codes "f\n") ∷ []) ∷ []
  pub turned_main : drawn_at_eighths (codes "abcdef\n") (two (between 0 1) (turned_between 3 5) 1) whole
      ≡ atoms_line (in_other (codes "a") ∷ cursor_atom (codes "b") ∷ bare_atom (codes "c") ∷ cursor_atom (codes "d") ∷ in_main (codes "ef") ∷ bare_atom (codes "\n") ∷ []) ∷ []
  -- selections that touch
  pub neighbours : drawn_at_eighths (codes "abcd\n") (two (between 0 1) (between 2 3) 1) whole
      ≡ atoms_line (in_other (codes "a") ∷ cursor_atom (codes "b") ∷ in_main (codes "c") ∷ cursor_atom (codes "d") ∷ bare_atom (codes "\n") ∷ []) ∷ []
  -- two cursors beside each other make one atom, since they have the same face
  pub cursors_that_touch : drawn_at_eighths (codes "abcd\n") (two (only 1) (only 2) 0) whole ≡ atoms_line (bare_atom (codes "a") ∷ cursor_atom (codes "bc") ∷ bare_atom (codes "d\n") ∷ []) ∷ []
  pub both_on_newlines : drawn_at_eighths (codes "ab\nc\n") (two (between 1 2) (only 4) 1) whole
      ≡ atoms_line (bare_atom (codes "a") ∷ in_other (codes "b") ∷ atom (codes "\n") named.Black named.Cyan ∷ []) ∷ atoms_line (bare_atom (codes "c") ∷ atom (codes "\n") named.Black named.Cyan ∷ []) ∷ []
  -- each over a line's end; the main one is the second
  pub over_lines : drawn_at_eighths (codes "ab\ncd\nef\n") (two (between 1 3) (turned_between 5 7) 1) whole
      ≡ atoms_line (bare_atom (codes "a") ∷ in_other (codes "b\n") ∷ [])
      ∷ atoms_line (cursor_atom (codes "c") ∷ bare_atom (codes "d") ∷ atom (codes "\n") named.Black named.Cyan ∷ [])
      ∷ atoms_line (in_main (codes "ef") ∷ bare_atom (codes "\n") ∷ []) ∷ []
  -- the first ends on the line on which the second begins, which goes over a whole line
  pub over_a_whole_line : drawn_at_eighths (codes "ab\ncd\nef\n") (three (between 0 1) (between 2 6) (only 7) 1) whole
      ≡ atoms_line (in_other (codes "a") ∷ cursor_atom (codes "b") ∷ in_main (codes "\n") ∷ [])
      ∷ atoms_line (in_main (codes "cd\n") ∷ [])
      ∷ atoms_line (cursor_atom (codes "ef") ∷ bare_atom (codes "\n") ∷ []) ∷ []
  -- the first selection is above the window, and the last one below it
  pub one_in_the_window : drawn_at_eighths (codes "a\nb\nc\nd\n") (three (only 0) (between 3 4) (only 6) 0) (narrow 1 0)
      ≡ atoms_line (bare_atom (codes "b") ∷ in_other (codes "\n") ∷ []) ∷ atoms_line (cursor_atom (codes "c") ∷ bare_atom (codes "\n") ∷ []) ∷ []
  -- the first selection is left of the window, and the last one right of it
  pub cut_by_the_window : drawn_at_eighths (codes "abcdefgh\n") (three (between 0 1) (between 3 5) (only 7) 1) (narrow 0 4)
      ≡ atoms_line (in_main (codes "e") ∷ cursor_atom (codes "f") ∷ bare_atom (codes "g") ∷ []) ∷ []

-- of lines with other tab stops
pub record TabExamples : Type 0 where
  pub at_each_fourth : drawn_lines (plain_looks 4 (alone true (only 0)) whole) (codes "a\tb\n") ≡ atoms_line (cursor_atom (codes "a") ∷ bare_atom (codes "   b\n") ∷ []) ∷ []
  pub at_each_column : drawn_lines (plain_looks 1 (alone true (only 0)) whole) (codes "a\tb\n") ≡ atoms_line (cursor_atom (codes "a") ∷ bare_atom (codes " b\n") ∷ []) ∷ []
  pub cut_at_the_left : drawn_lines (plain_looks 4 (alone true (only 1)) (narrow 0 2)) (codes "a\tbc\n") ≡ atoms_line (cursor_atom (codes "  ") ∷ bare_atom (codes "b") ∷ []) ∷ []
  pub behind_a_tab_stop : drawn_lines (plain_looks 4 (alone true (only 4)) (narrow 0 6)) (codes "abcd\te\n") ≡ atoms_line (cursor_atom (codes "  ") ∷ bare_atom (codes "e") ∷ []) ∷ []

-- a face on one place of each line, above the default one, and the same under the cursor on a character
abbrev pub face_over : ℕ → Face → ℕ → ℕ → Face
face_over place face n i = if i == place then face else default_face

abbrev pub over_ground : (ℕ → ℕ → Face) → Selected → View → Looks
over_ground base sels view = record (plain_looks 8 sels view) { base = base }

-- red letters, and the same so that they stay
abbrev pub in_red : Face
in_red = plain_face named.Red named.Default

abbrev pub in_kept_red : Face
in_kept_red = record in_red { attributes = record no_attributes { final_fg = true } }

-- an atom in a face
abbrev pub faced : List ℕ → Face → Atom
faced contents face = record { contents = contents; face = face }

-- what lies under the selections
pub record GroundExamples : Type 0 where
  pub a_place : drawn_lines (over_ground (face_over 1 in_red) (alone true (only 0)) whole) (codes "abc\n") ≡ atoms_line (cursor_atom (codes "a") ∷ faced (codes "b") in_red ∷ bare_atom (codes "c\n") ∷ []) ∷ []
  -- the cursor lies above it, and is merged with it
  pub under_the_cursor : drawn_lines (over_ground (face_over 1 in_red) (alone true (only 1)) whole) (codes "abc\n") ≡ atoms_line (bare_atom (codes "a") ∷ cursor_atom (codes "b") ∷ bare_atom (codes "c\n") ∷ []) ∷ []
  pub kept_under_the_cursor : drawn_lines (over_ground (face_over 1 in_kept_red) (alone true (only 1)) whole) (codes "abc\n")
      ≡ atoms_line (bare_atom (codes "a") ∷ faced (codes "b") (record in_kept_red { bg = (plain_face named.Red named.White).bg }) ∷ bare_atom (codes "c\n") ∷ []) ∷ []
  -- places are counted by the characters of each line, not by its cells
  pub behind_wide : drawn_lines (over_ground (face_over 1 in_red) (alone true (only 3)) whole) (0x6F22 ∷ 0x61 ∷ 10 ∷ 0x62 ∷ 0x63 ∷ 10 ∷ [])
      ≡ atoms_line (bare_atom (0x6F22 ∷ []) ∷ faced (codes "a") in_red ∷ bare_atom (codes "\n") ∷ []) ∷ atoms_line (cursor_atom (codes "b") ∷ faced (codes "c") in_red ∷ bare_atom (codes "\n") ∷ []) ∷ []
  -- lines by their numbers in the text
  pub by_number : drawn_lines (over_ground (λ n i. if n == 1 then in_red else default_face) (alone true (only 0)) (narrow 1 0)) (codes "a\nb\nc\n")
      ≡ atoms_line (faced (codes "b\n") in_red ∷ []) ∷ atoms_line (bare_atom (codes "c\n") ∷ []) ∷ []
  -- a cut character has the face of its place
  pub cut_wide : drawn_lines (over_ground (face_over 1 in_red) (alone true (only 0)) (record (narrow 0 0) { columns = 2 })) (0x61 ∷ 0x6F22 ∷ 10 ∷ []) ≡ atoms_line (cursor_atom (codes "a") ∷ faced (codes " ") in_red ∷ []) ∷ []

-- numbers, which mark the main cursor's line or don't, with what stands behind them
abbrev pub numbers : List Numbering → ℕ → Selected → View → Looks
numbers rows cursor_line sels view = record (plain_looks 8 sels view) { numbers = rows; cursor_line = cursor_line }

abbrev pub marking : List ℕ → Numbering
marking separator = record { marked = true; separator = separator }

abbrev pub unmarked : List ℕ → Numbering
unmarked separator = record { marked = false; separator = separator }

-- the face of a marked number
abbrev pub number_face : Face
number_face = standard_face standard.LineNumberCursor

-- numbers before lines
pub record NumberExamples : Type 0 where
  -- the text has what they leave, and one column at least
  pub part : text_part (narrow 4 2) 2 ≡ record { top = 4; left = 2; rows = 2; columns = 1 }
  pub no_part_left : text_part (narrow 4 2) 3 ≡ record { top = 4; left = 2; rows = 2; columns = 1 }
  pub no_numbers : text_part whole 0 ≡ whole
  -- the numbers and the text make atoms together where they have one face
  pub marked_line : drawn_lines (numbers (marking (0x2502 ∷ []) ∷ []) 0 (alone true (only 0)) whole) (codes "a\nb\n")
      ≡ atoms_line (faced (0x31 ∷ 0x2502 ∷ []) number_face ∷ cursor_atom (codes "a") ∷ bare_atom (codes "\n") ∷ []) ∷ atoms_line (bare_atom (0x32 ∷ 0x2502 ∷ 0x62 ∷ 10 ∷ []) ∷ []) ∷ []
  pub unmarked_line : drawn_lines (numbers (unmarked (codes "|") ∷ []) 0 (alone true (only 0)) whole) (codes "a\n")
      ≡ atoms_line (bare_atom (codes "1|") ∷ cursor_atom (codes "a") ∷ bare_atom (codes "\n") ∷ []) ∷ []
  -- one behind the other, each with what stands behind it as it is
  pub two_rows : drawn_lines (numbers (unmarked (codes "\t") ∷ marking [] ∷ []) 0 (alone true (only 0)) whole) (codes "a\n")
      ≡ atoms_line (bare_atom (codes "1\t") ∷ faced (codes "1") number_face ∷ cursor_atom (codes "a") ∷ bare_atom (codes "\n") ∷ []) ∷ []
  -- the window cuts the text, and not the numbers
  pub not_cut : drawn_lines (numbers (unmarked (codes "|||") ∷ []) 0 (alone true (only 3)) (record (narrow 0 3) { columns = 1 })) (codes "abcd\n") ≡ atoms_line (bare_atom (codes "1|||") ∷ cursor_atom (codes "d") ∷ []) ∷ []
  pub text_cut_whole : drawn_lines (numbers (unmarked (codes "|") ∷ []) 1 (alone true (only 6)) (narrow 0 3)) (codes "ab\ncdef\n") ≡ atoms_line (bare_atom (codes "1|") ∷ []) ∷ atoms_line (bare_atom (codes "2|") ∷ cursor_atom (codes "f") ∷ bare_atom (codes "\n") ∷ []) ∷ []
  -- the first line of the window has its number in the text
  pub from_the_top : drawn_lines (numbers (unmarked (codes "|") ∷ []) 0 (alone true (only 0)) (narrow 1 0)) (codes "a\nb\n") ≡ atoms_line (bare_atom (codes "2|b\n") ∷ []) ∷ []

-- lines with whitespace as signs
abbrev pub signs_at_eighths : List ℕ → Selected → View → List DrawnLine
signs_at_eighths text sels view = drawn_lines (record (plain_looks 8 sels view) { signs = true }) text

pub record SignLineExamples : Type 0 where
  pub all_three : signs_at_eighths (codes "a b\tc\n") (alone true (only 0)) whole ≡ atoms_line (cursor_atom (codes "a") ∷ bare_atom (0xB7 ∷ 0x62 ∷ 0x2192 ∷ 32 ∷ 32 ∷ 32 ∷ 32 ∷ 0x63 ∷ 0xAC ∷ []) ∷ []) ∷ []
  pub cursor_on_a_newline : signs_at_eighths (codes "\n") (alone true (only 0)) whole ≡ atoms_line (atom (0xAC ∷ []) named.Black named.Cyan ∷ []) ∷ []
  pub cut_tab : signs_at_eighths (codes "a\tb\n") (alone true (only 0)) (narrow 0 0) ≡ atoms_line (cursor_atom (codes "a") ∷ bare_atom (codes "  ") ∷ []) ∷ []
  pub one_by_one : signs_at_eighths (codes "a b\n") (alone true (only 1)) (record { top = 0; left = 1; rows = 1; columns = 1 }) ≡ atoms_line (cursor_atom (0xB7 ∷ []) ∷ []) ∷ []

pub record Examples : Type 0 where
  pub chars : CharExamples
  pub signs : SignExamples
  pub sign_lines : SignLineExamples
  pub grounds : GroundExamples
  pub numbered : NumberExamples
  pub cells : LineExamples
  pub tabs : TabExamples
  pub seen : SeenExamples
  pub lists : ListExamples
  pub cursor_in_the_middle : drawn_at_eighths (codes "abc\n") (alone true (only 1)) whole
      ≡ atoms_line (bare_atom (codes "a") ∷ cursor_atom (codes "b") ∷ bare_atom (codes "c\n") ∷ []) ∷ []
  -- a selection over two lines, with its cursor at its begin
  pub turned_selection : drawn_at_eighths (codes "ab\ncd\n") (alone true (record (between 1 3) { turned = true })) whole
      ≡ atoms_line (bare_atom (codes "a") ∷ cursor_atom (codes "b") ∷ atom (codes "\n") named.White named.Blue ∷ [])
      ∷ atoms_line (atom (codes "c") named.White named.Blue ∷ bare_atom (codes "d\n") ∷ []) ∷ []
  -- the second selection is the main one
  pub two_selections : drawn_at_eighths (codes "abcdef\n") (record { list = between 0 1 ∷ between 3 4 ∷ []; main = 1 }) whole
      ≡ atoms_line (atom (codes "a") named.Black named.Blue ∷ cursor_atom (codes "b") ∷ bare_atom (codes "c")
      ∷ atom (codes "d") named.White named.Blue ∷ cursor_atom (codes "e") ∷ bare_atom (codes "f\n") ∷ []) ∷ []
  pub cut_at_both_sides : drawn_at_eighths (codes "abcdefg\n") (alone true (only 3)) (narrow 0 2)
      ≡ atoms_line (bare_atom (codes "c") ∷ cursor_atom (codes "d") ∷ bare_atom (codes "e") ∷ []) ∷ []
  pub cut_whole : drawn_at_eighths (codes "ab\ncdefg\n") (alone true (only 6)) (narrow 0 3) ≡ atoms_line [] ∷ atoms_line (cursor_atom (codes "f") ∷ bare_atom (codes "g\n") ∷ []) ∷ []
  pub from_the_top : drawn_at_eighths (codes "a\nb\nc\nd\n") (alone true (only 4)) (narrow 1 0) ≡ atoms_line (bare_atom (codes "b\n") ∷ []) ∷ atoms_line (cursor_atom (codes "c") ∷ bare_atom (codes "\n") ∷ []) ∷ []
  pub below_the_end : drawn_at_eighths (codes "a\n") (alone true (only 0)) (narrow 1 0) ≡ []
