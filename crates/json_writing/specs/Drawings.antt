-- The lines of a drawing.
use Rattle.std.specs.Prelude.{ℕ, ◌/◌, ◌%◌, List, [], ◌∷◌, ◌++◌, Bool, if◌then◌else◌, map, filter, codes, decimal}
use Rattle.std.specs.Char.{digit_char}
use Rattle.kak_faces.specs.declared.colour.Colour.{Colour}
use Rattle.kak_faces.specs.declared.colour.Colour.TheVariants.{Named, Rgb}
use Rattle.kak_faces.specs.declared.colour.Attributes.{Attributes}
use Rattle.kak_faces.specs.declared.face.Face.{Face}
use Rattle.kak_faces.specs.Colours.{colour_name, attribute_name, all_attributes, has_attribute}
use Rattle.drawings.specs.declared.drawing.Atom.{Atom}
use Rattle.drawings.specs.declared.drawing.DrawnLine.{DrawnLine}
use Rattle.drawings.specs.declared.drawing.Cursor.{Cursor}
use Rattle.drawings.specs.declared.drawing.InfoBox.{InfoBox}
use Rattle.drawings.specs.declared.drawing.Info.{Info}
use Rattle.drawings.specs.declared.drawing.Info.TheVariants.{Keep, Hide, Show}
use Rattle.drawings.specs.declared.drawing.Drawing.{Drawing}
use Rattle.json_writing.specs.JsonText.{string_text, plain_string, array_text, member_text, object_text}

-- a byte as two small hexadecimal digits
abbrev pub hex_byte : ℕ → List ℕ
hex_byte n = digit_char (n / 16) ∷ digit_char (n % 16) ∷ []

-- a colour: its name, or # and its red, green and blue
abbrev pub colour_text : Colour → List ℕ
colour_text (Named name) = colour_name name
colour_text (Rgb red green blue) = 35 ∷ hex_byte red ++ (hex_byte green ++ hex_byte blue)

-- the names of the attributes that a face has, in their order
abbrev pub attribute_texts : Attributes → List (List ℕ)
attribute_texts a = map (λ attribute. plain_string (attribute_name attribute)) (filter (has_attribute a) all_attributes)

-- a face
abbrev pub face_text : Face → List ℕ
face_text face = object_text (
    member_text (codes "attributes") (array_text (attribute_texts face.attributes))
    ∷ member_text (codes "bg") (plain_string (colour_text face.bg))
    ∷ member_text (codes "fg") (plain_string (colour_text face.fg))
    ∷ member_text (codes "underline") (plain_string (colour_text face.underline))
    ∷ [])

-- characters in one face
abbrev pub atom_text : Atom → List ℕ
atom_text atom = object_text (
    member_text (codes "contents") (string_text atom.contents)
    ∷ member_text (codes "face") (face_text atom.face)
    ∷ [])

-- what ends an atom in a face, from the quote behind its characters on
abbrev pub atom_end : Face → List ℕ
atom_end face = codes "\",\"face\":" ++ (face_text face ++ codes "}")

-- a line of atoms
abbrev pub line_text : DrawnLine → List ℕ
line_text line = array_text (map atom_text line.atoms)

-- lines
abbrev pub lines_text : List DrawnLine → List ℕ
lines_text lines = array_text (map line_text lines)

-- one request: a line with its method and its parameters
abbrev pub request_line : List ℕ → List (List ℕ) → List ℕ
request_line method parameters = object_text (
    member_text (codes "jsonrpc") (plain_string (codes "2.0"))
    ∷ member_text (codes "method") (plain_string method)
    ∷ member_text (codes "params") (array_text parameters)
    ∷ [])
    ++ 10 ∷ []

-- the options, which the first drawing of a client sets
abbrev pub options_lines : Bool → List ℕ
options_lines first = if first then request_line (codes "set_ui_options") (object_text [] ∷ []) else []

-- the lines of the window, the default face, and the face of the rows below the last line
abbrev pub draw_lines : List DrawnLine → Face → Face → List ℕ
draw_lines lines default_face padding_face =
    request_line (codes "draw") (lines_text lines ∷ face_text default_face ∷ face_text padding_face ∷ [])

-- the status, the mode line and their face
abbrev pub status_lines : DrawnLine → DrawnLine → Face → List ℕ
status_lines status mode_line face =
    request_line (codes "draw_status") (line_text status ∷ line_text mode_line ∷ face_text face ∷ [])

-- a line and a column
abbrev pub place_text : ℕ → ℕ → List ℕ
place_text line column = object_text (member_text (codes "column") (decimal column) ∷ member_text (codes "line") (decimal line) ∷ [])

-- the word for where the cursor stands
abbrev pub cursor_word : Bool → List ℕ
cursor_word prompt = if prompt then codes "prompt" else codes "buffer"

-- the cursor
abbrev pub cursor_lines : Cursor → List ℕ
cursor_lines cursor =
    request_line (codes "set_cursor") (plain_string (cursor_word cursor.prompt) ∷ place_text cursor.line cursor.column ∷ [])

-- a box that is shown: its title, its lines, its anchor, its face and its style
abbrev pub box_lines : InfoBox → List ℕ
box_lines box =
    request_line (codes "info_show") (line_text box.title ∷ lines_text box.content ∷ object_text (member_text (codes "column") (codes "0") ∷ member_text (codes "line") (codes "0") ∷ [])
    ∷ face_text box.face ∷ plain_string (codes "prompt") ∷ [])

-- the box, where it changed
abbrev pub info_lines : Info → List ℕ
info_lines Keep = []
info_lines Hide = request_line (codes "info_hide") []
info_lines (Show box) = box_lines box

-- the drawing is complete
abbrev pub refresh_lines : List ℕ
refresh_lines = request_line (codes "refresh") (codes "false" ∷ [])

-- the lines of a drawing
abbrev pub drawing_bytes : Drawing → List ℕ
drawing_bytes d =
    options_lines d.first
    ++ (draw_lines d.lines d.default_face d.padding_face
    ++ (status_lines d.status d.mode_line d.status_face
    ++ (cursor_lines d.cursor
    ++ (info_lines d.info
    ++ refresh_lines))))
