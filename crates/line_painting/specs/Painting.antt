-- How lines are painted: what is drawn, the faces that selections lay over a line, and how much of a line is drawn.
use Rattle.std.specs.Prelude.{◌≡◌, ℕ, ◌+◌, ◌-◌, ◌<◌, ◌≤◌, ◌==◌, ◌&&◌, nat_le, min, Bool, if◌then◌else◌, Option, Some, None, List, [], ◌∷◌, ◌++◌, length, map, take, drop, replicate, slice_index, slice_index_or}
use Rattle.text_model.specs.declared.coords.Coord.{Coord}
use Rattle.text_model.specs.Texts.{lines_of, joined, line_count, nth_line, offset, IsPlace}
use Rattle.list_model.specs.Ranges.{Range, Selected}
use Rattle.selection_set.specs.declared.sel.Sel.{Sel}
use Rattle.selection_set.specs.Inside.{IsInside}
use Rattle.selection_set.specs.Held.{selected}
use Rattle.kak_text.specs.Cells.{cells_of, column_behind, display_column}
use Rattle.window_view.specs.View.{View}
use Rattle.window_view.specs.Views.{window_seen}
use Rattle.kak_faces.specs.declared.face.Face.{Face}
use Rattle.kak_faces.specs.Standard.{default_face}
use Rattle.face_grounds.specs.declared.ground.Over.{Over}
use Rattle.face_grounds.specs.Grounds.{Seen, everywhere, ground_at, over_all}
use Rattle.face_texts.specs.declared.palette.Palette.{Palette}
use Rattle.face_texts.specs.Palettes.{palette_face}
use Rattle.highlight_paint.specs.Numbers.{numbering}
use Rattle.drawings.specs.declared.drawing.Atom.{Atom}
use Rattle.line_painting.specs.declared.cells.CharDrawn.{CharDrawn}
use Rattle.line_painting.specs.declared.scene.Scene.{Scene}
use Rattle.drawings.specs.declared.drawing.DrawnLine.{DrawnLine}
use Rattle.line_painting.specs.Atoms.{ShownChar, shown_in, with_all_shown}
use Rattle.line_painting.specs.Cells.{right_of, char_drawn}
use Rattle.line_painting.specs.Lines.{Looks, cursor_name, over, face_on, under_selections, under_cursors, shown_from, text_shown, line_drawn}

-- the list of one selection, which is the main one or another
abbrev pub alone : Bool → Range → Selected
alone main r = record { list = r ∷ []; main = if main then 0 else 1 }

-- one of some grounds
abbrev pub slice_index_seen : List Seen → ℕ → Seen
slice_index_seen grounds k = slice_index_or grounds k (everywhere default_face)

-- the faces of the places of lines by their numbers, where the first line has that number
abbrev pub grounds_from : ℕ → List Seen → ℕ → ℕ → Face
grounds_from top grounds n i = ground_at (slice_index_seen grounds (n - top)) i

-- how the lines of a scene are drawn over such faces
abbrev pub looks_over : Scene → (ℕ → ℕ → Face) → Looks
looks_over scene base = record {
  tabstop = scene.frame.tabstop.columns;
  signs = scene.frame.signs;
  view = window_seen scene.frame.window;
  palette = scene.palette.now;
  sels = selected scene.lines.now scene.sels.now;
  base = base;
  numbers = map numbering scene.numbers.now;
  cursor_line = scene.cursor_line;
}

-- and over the grounds of the lines of the window
abbrev pub scene_looks : Scene → List Seen → Looks
scene_looks scene grounds = looks_over scene (grounds_from scene.frame.window.top grounds)

-- the lines that a window shows of a text
abbrev pub lines_in : View → List ℕ → List (List ℕ)
lines_in view text = take view.rows (drop view.top (lines_of text))

-- where a line begins, by its number
abbrev pub line_start : List ℕ → ℕ → ℕ
line_start text n = length (joined (take n (lines_of text)))

-- what the window of a scene shows of the n-th line over a ground, and the line as it is drawn
abbrev pub text_on : Scene → Seen → ℕ → List ShownChar
text_on scene g n = text_shown (looks_over scene (λ m i. ground_at g i)) (line_start scene.lines.now n) n (nth_line scene.lines.now n)

abbrev pub line_on : Scene → Seen → ℕ → DrawnLine
line_on scene g n = line_drawn (looks_over scene (λ m i. ground_at g i)) (line_count scene.lines.now) (line_start scene.lines.now n) n (nth_line scene.lines.now n)

-- a ground has the faces that the n-th line has over another one
abbrev pub HasLineFaces : Scene → ℕ → Seen → Seen → Type 0
HasLineFaces scene n base g =
    (i : ℕ) → i < length (nth_line scene.lines.now n)
    → ground_at g i ≡ face_on scene.palette.now (selected scene.lines.now scene.sels.now) (ground_at base) (line_start scene.lines.now n) i (slice_index (nth_line scene.lines.now n) i)

-- there are as many grounds as before, and those behind the k-th are the same
pub record AreOthersKept (k : ℕ) (old new : List Seen) : Type 0 where
  pub same : length new ≡ length old
  pub others : (j : ℕ) (d : Seen) → k < j → slice_index_or new j d ≡ slice_index_or old j d

-- faces were laid over the k-th of some grounds, and over no other
pub record IsLaidAt (k : ℕ) (overs : List Over) (old new : List Seen) : Type 0 where
  pub here : (i : ℕ) → ground_at (slice_index_seen new k) i ≡ over_all overs i (ground_at (slice_index_seen old k) i)
  pub kept : AreOthersKept k old new

-- the character that is drawn first, if there is one
abbrev pub head_chars : Option ℕ → List ℕ
head_chars None = []
head_chars (Some c) = c ∷ []

-- what is drawn of a character: the first, and spaces
abbrev pub drawn_chars : CharDrawn → List ℕ
drawn_chars d = head_chars d.head ++ replicate d.spaces 32

-- the face of each place of a ground, whatever character is there
abbrev pub ground_face : Seen → ℕ → ℕ → Face
ground_face g i c = ground_at g i

-- a selection ends before a line
abbrev pub EndsBefore : ℕ → Sel → Type 0
EndsBefore line sel = sel.high.line < line

-- a line of the text has so many characters
pub record IsLongLine (text : List ℕ) (n len : ℕ) : Type 0 where
  pub there : n < line_count text
  pub long : len ≡ length (nth_line text n)

-- of the so many characters of a line, those before an offset
abbrev pub before_offset : List ℕ → ℕ → ℕ → ℕ → ℕ
before_offset text n len place = min len (place - line_start text n)

-- in any text whose n-th line has so many characters, so many of them stand before a column of a line
abbrev pub CountsBefore : ℕ → ℕ → ℕ → ℕ → ℕ → Type 0
CountsBefore n len line column count =
    (text : List ℕ) → IsLongLine text n len → line < line_count text → column ≤ length (nth_line text line)
    → count ≡ before_offset text n len (line_start text line + column)

-- in any text whose n-th line has so many characters, a face lies over those of them that stand in a selection
abbrev pub IsSelectionLaid : ℕ → ℕ → Sel → Face → List Over → List Over → Type 0
IsSelectionLaid n len sel face old new =
    (text : List ℕ) (i : ℕ) (below : Face) → IsLongLine text n len → IsInside text sel → i < len
    → over_all new i below ≡ over (nat_le (offset text sel.low) (line_start text n + i) && nat_le (line_start text n + i) (offset text sel.high)) face (over_all old i below)

-- the same of a cursor, of the main selection or another, on a line of these characters
abbrev pub IsCursorLaid : Palette → ℕ → List ℕ → Coord → Bool → List Over → List Over → Type 0
IsCursorLaid palette n line at main old new =
    (text : List ℕ) (i : ℕ) (below : Face) → IsLongLine text n (length line) → IsPlace text at → i < length line
    → over_all new i below ≡ over (offset text at == line_start text n + i) (palette_face palette (cursor_name main (slice_index line i))) (over_all old i below)

-- faces that lie over the so many places of a line that begins at an offset are those before them, with those of selections
-- over them
abbrev pub AreSelectionsLaid : Palette → Selected → ℕ → ℕ → List Over → List Over → Type 0
AreSelectionsLaid palette sels o len old new =
    (i : ℕ) (face : Face) → i < len → over_all new i face ≡ under_selections palette (o + i) sels.main 0 sels.list (over_all old i face)

-- the same with those of cursors
abbrev pub AreCursorsLaid : Palette → Selected → ℕ → List ℕ → List Over → List Over → Type 0
AreCursorsLaid palette sels o line old new =
    (i : ℕ) (face : Face) → i < length line → over_all new i face ≡ under_cursors palette (o + i) (slice_index line i) sels.main 0 sels.list (over_all old i face)

-- atoms, and the face that more characters get
pub record Grown : Type 0 where
  pub atoms : List Atom
  pub face : Face

-- with more characters
abbrev pub grown_by : Grown → List ℕ → Grown
grown_by old more = record { atoms = with_all_shown old.atoms (shown_in old.face more); face = old.face }

-- what is drawn of characters, of which the first begins at a display column
abbrev pub chars_drawn : ℕ → Bool → View → ℕ → List ℕ → List ℕ
chars_drawn tabstop signs view column [] = []
chars_drawn tabstop signs view column (c ∷ cs) =
    char_drawn signs view column (cells_of c column tabstop) c ++ chars_drawn tabstop signs view (column + cells_of c column tabstop) cs

-- atoms with what is drawn of characters in one face behind them
abbrev pub with_stretch : ℕ → Bool → View → List Atom → Face → ℕ → List ℕ → List Atom
with_stretch tabstop signs view atoms face column cs = with_all_shown atoms (shown_in face (chars_drawn tabstop signs view column cs))

-- two display columns are the same, or both lie right of the window
abbrev pub SameColumn : View → ℕ → ℕ → Type 0
SameColumn view a b = min (right_of view) a ≡ min (right_of view) b

-- a column is that behind characters, or both lie right of the window
abbrev pub IsColumnBehind : ℕ → View → ℕ → List ℕ → ℕ → Type 0
IsColumnBehind tabstop view column cs behind = SameColumn view behind (column_behind tabstop column cs)

-- a line is drawn before a place, and the character there begins at that display column, or both lie right of the window
pub record IsDrawnTo (tabstop : ℕ) (signs : Bool) (look : ℕ → ℕ → Face) (view : View) (o : ℕ) (line : List ℕ) (old new : List Atom) (place column : ℕ) : Type 0 where
  pub inside : place ≤ length line
  pub drawn : new ≡ with_all_shown old (shown_from tabstop signs look view o 0 (take place line))
  pub column_is : SameColumn view column (display_column line place tabstop)
