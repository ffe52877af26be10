-- What a client is shown of the world.
use Rattle.std.specs.Prelude.{◌≡◌, ℕ, ◌+◌, ◌-◌, true, false, not, List, [], ◌∷◌, ◌++◌, length, drop, codes, decimal, slice_index}
use Rattle.text_model.specs.declared.coords.Coord.{Coord}
use Rattle.text_model.specs.Texts.{line_count, nth_line, coord_at}
use Rattle.list_model.specs.Ranges.{Selected, cursor}
use Rattle.selection_set.specs.Held.{main_of}
use Rattle.edit_line.specs.Halves.{Halves}
use Rattle.kak_text.specs.Cells.{cells_of, column_behind, display_column}
use Rattle.window_view.specs.View.{View, followed}
use Rattle.window_view.specs.Sizes.{corner_of}
use Rattle.face_texts.specs.declared.palette.Palette.{Palette}
use Rattle.face_texts.specs.Palettes.{palette_of}
use Rattle.highlight_paint.specs.Painters.{Paints, painting}
use Rattle.highlight_paint.specs.Painting.{painted_face}
use Rattle.highlight_paint.specs.Numbers.{gutter_of, numbers_of, has_signs}
use Rattle.drawings.specs.declared.drawing.Cursor.{Cursor}
use Rattle.drawings.specs.declared.drawing.Drawing.{Drawing}
use Rattle.kak_world.specs.declared.own.Mode.{Mode}
use Rattle.kak_world.specs.declared.own.Mode.TheVariants.{Normal, Insert, Prompt}
use Rattle.kak_world.specs.declared.own.StatusText.{StatusText}
use Rattle.kak_world.specs.declared.own.StatusText.TheVariants.{Quiet, Said, Refused}
use Rattle.directions.specs.declared.direction.Direction.{Direction}
use Rattle.directions.specs.declared.direction.Direction.TheVariants.{Forward, Backward}
use Rattle.kak_world.specs.declared.purpose.Use.{Use}
use Rattle.kak_world.specs.declared.purpose.Use.TheVariants as matches
use Rattle.kak_world.specs.declared.purpose.Purpose.{Purpose}
use Rattle.kak_world.specs.declared.purpose.Purpose.TheVariants.{Commands, Pattern}
use Rattle.kak_world.specs.Flat.{Flat, text_of, number_of, name_of, mode_of, sels_of, view_of, tabstop_of, status_of, purpose_of, prompt_of, is_drawn, shown_of, faces_of, highlighters_of, with_corner}
use Rattle.line_painting.specs.Atoms.{ShownChar, shown_in, atoms_of}
use Rattle.line_painting.specs.Lines.{text_part, Looks, drawn_lines}
use Rattle.draw_model.specs.Boxes.{line_in, sent_to, box_for, info_since}

-- what stands in the status line, outside of a prompt
abbrev pub status_shown : Palette → StatusText → List ShownChar
status_shown palette Quiet = []
status_shown palette (Said text) = shown_in palette.status_line text
status_shown palette (Refused text) = shown_in palette.error text

-- the character under the cursor of a prompt, of what stands from there on; a space (32) where nothing does
abbrev pub under_cursor : List ℕ → ℕ
under_cursor [] = 32
under_cursor (c ∷ cs) = c

-- what stands before the line of a prompt for a pattern, by where its matches are looked for
abbrev pub search_name : Direction → List ℕ
search_name Forward = codes "search:"
search_name Backward = codes "reverse search:"

-- the same, by what is done with them
abbrev pub use_name : Use → List ℕ
use_name matches.Select = codes "select:"
use_name matches.Split = codes "split:"
use_name matches.Keep = codes "keep:"
use_name matches.Drop = codes "drop:"
use_name (matches.Search direction) = search_name direction
use_name (matches.Reach direction) = search_name direction
use_name (matches.Step direction further) = search_name direction
use_name (matches.Add direction further) = search_name direction

-- what stands before the line of a prompt
abbrev pub prompt_name : Purpose → List ℕ
prompt_name Commands = codes ":"
prompt_name (Pattern wanted) = use_name wanted

-- a prompt: what stands before its line, what stands before the cursor, what stands under it, and the rest
abbrev pub prompt_shown : Palette → Purpose → Halves → List ShownChar
prompt_shown palette purpose prompt =
    shown_in palette.prompt (prompt_name purpose)
    ++ (shown_in palette.status_line prompt.before
    ++ (shown_in palette.status_cursor (under_cursor prompt.behind ∷ []) ++ shown_in palette.status_line (drop 1 prompt.behind)))

-- the status line
abbrev pub status_line : Palette → Mode → StatusText → Purpose → Halves → List ShownChar
status_line palette Normal status purpose prompt = status_shown palette status
status_line palette Insert status purpose prompt = status_shown palette status
status_line palette Prompt status purpose prompt = prompt_shown palette purpose prompt

-- the name of a mode
abbrev pub mode_name : Mode → List ℕ
mode_name Normal = codes "normal"
mode_name Insert = codes "insert"
mode_name Prompt = codes "prompt"

-- the coordinate of the main selection's cursor
abbrev pub main_cursor : List ℕ → Selected → Coord
main_cursor text sels = coord_at text (cursor (main_of sels))

-- the line of the main selection's cursor
abbrev pub main_line : List ℕ → Selected → List ℕ
main_line text sels = nth_line text (main_cursor text sels).line

-- the display column of the main selection's cursor
abbrev pub main_column : ℕ → List ℕ → Selected → ℕ
main_column tabstop text sels = display_column (main_line text sels) (main_cursor text sels).column tabstop

-- how many cells the character under the main selection's cursor has
abbrev pub main_cells : ℕ → List ℕ → Selected → ℕ
main_cells tabstop text sels = cells_of (slice_index (main_line text sels) (main_cursor text sels).column) (main_column tabstop text sels) tabstop

-- what the mode line says behind the buffer's name: the cursor's line and column from 1, the mode, the main selection's
-- number from 1 and how many there are, and the client's name
abbrev pub mode_line_text : Coord → Mode → Selected → ℕ → List ℕ
mode_line_text at mode sels number =
    codes " " ++ (decimal (at.line + 1) ++ (codes ":" ++ (decimal (at.column + 1) ++ (codes " " ++ (mode_name mode ++ (codes " "
    ++ (decimal (sels.main + 1) ++ (codes "/" ++ (decimal (length sels.list) ++ (codes " - client" ++ decimal number))))))))))

-- what the mode line says
abbrev pub mode_text : List ℕ → Coord → Mode → Selected → ℕ → List ℕ
mode_text buffer at mode sels number = buffer ++ mode_line_text at mode sels number

-- a text is what the mode line says of each list of so many selections with that main one
abbrev pub IsModeText : List ℕ → Coord → Mode → ℕ → ℕ → ℕ → List ℕ → Type 0
IsModeText buffer at mode main count number text =
    (sels : Selected) → sels.main ≡ main → length sels.list ≡ count → text ≡ mode_text buffer at mode sels number

-- how many cells have what stands before the line of a prompt and the characters before its cursor
abbrev pub prompt_column : ℕ → Purpose → List ℕ → ℕ
prompt_column tabstop purpose before = column_behind tabstop 0 (prompt_name purpose ++ before)

-- where the cursor stands: in the window, by the line and the display column of the main one, behind so many number cells; or
-- in the prompt
abbrev pub cursor_drawn : ℕ → Mode → ℕ → ℕ → View → ℕ → Purpose → Halves → Cursor
cursor_drawn tabstop Prompt line column view gutter purpose prompt = record { prompt = true; line = 0; column = prompt_column tabstop purpose prompt.before }
cursor_drawn tabstop _ line column view gutter purpose prompt = record { prompt = false; line = line - view.top; column = gutter + (column - view.left) }

-- what highlighters do for a client, in the buffer that it sees
abbrev pub paints_for : ℕ → Flat → List Paints
paints_for who flat = painting (shown_of who flat) who (highlighters_of flat)

-- how many number cells stand before the lines that a client sees
abbrev pub gutter_for : ℕ → Flat → ℕ
gutter_for who flat = gutter_of (tabstop_of who flat) (line_count (text_of who flat)) (paints_for who flat)

-- the faces of the given names
abbrev pub palette_for : Flat → Palette
palette_for flat = palette_of (faces_of flat)

-- how the lines that a client sees are drawn: in the part of its window that number cells leave, over the faces that its
-- highlighters lay
abbrev pub looks_for : ℕ → Flat → Looks
looks_for who flat = record {
  tabstop = tabstop_of who flat;
  signs = has_signs (paints_for who flat);
  view = text_part (view_of who flat) (gutter_for who flat);
  palette = palette_for flat;
  sels = sels_of who flat;
  base = λ n i. painted_face (faces_of flat) (paints_for who flat) n (nth_line (text_of who flat) n) i;
  numbers = numbers_of (paints_for who flat);
  cursor_line = (main_cursor (text_of who flat) (sels_of who flat)).line;
}

-- the world after a client's window has followed its main cursor: it stands elsewhere then, and is as large as before
abbrev pub after_following : ℕ → Flat → Flat
after_following who flat =
    with_corner who
    (corner_of (followed (view_of who flat) (main_cursor (text_of who flat) (sels_of who flat)).line
    (main_column (tabstop_of who flat) (text_of who flat) (sels_of who flat)) (main_cells (tabstop_of who flat) (text_of who flat) (sels_of who flat)) (gutter_for who flat)))
    flat

-- what a client is shown, whose window has followed its main cursor
unfoldable pub drawing_of : ℕ → Flat → Drawing
drawing_of who flat = record {
  first = not (is_drawn who flat);
  lines = drawn_lines (looks_for who flat) (text_of who flat);
  default_face = (palette_for flat).default;
  padding_face = (palette_for flat).buffer_padding;
  status = record { atoms = atoms_of (status_line (palette_for flat) (mode_of who flat) (status_of who flat) (purpose_of who flat) (prompt_of who flat)) };
  mode_line = line_in (palette_for flat).status_line (mode_text (name_of who flat) (main_cursor (text_of who flat) (sels_of who flat)) (mode_of who flat) (sels_of who flat) (number_of who flat));
  status_face = (palette_for flat).status_line;
  cursor = cursor_drawn (tabstop_of who flat) (mode_of who flat) (main_cursor (text_of who flat) (sels_of who flat)).line
      (main_column (tabstop_of who flat) (text_of who flat) (sels_of who flat)) (view_of who flat) (gutter_for who flat) (purpose_of who flat) (prompt_of who flat);
  info = info_since (sent_to who flat) (box_for who flat);
}
