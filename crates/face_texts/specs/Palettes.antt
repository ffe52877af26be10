-- What the given names are seen as.
use Rattle.std.specs.Prelude.{List}
use Rattle.kak_faces.specs.declared.face.Face.{Face}
use Rattle.kak_faces.specs.declared.standard.StandardFace.{StandardFace}
use Rattle.kak_faces.specs.declared.standard.StandardFace.TheVariants as name
use Rattle.face_texts.specs.declared.rows.NamedFace.{NamedFace}
use Rattle.face_texts.specs.declared.palette.Palette.{Palette}
use Rattle.face_texts.specs.Tables.{seen_named}
use Rattle.face_texts.specs.Given.{standard_name}

-- what a given name is seen as
abbrev pub seen_standard : List NamedFace → StandardFace → Face
seen_standard rows face = seen_named rows (standard_name face)

-- what all of them are seen as
unfoldable pub palette_of : List NamedFace → Palette
palette_of rows = record {
  default = seen_standard rows name.Default;
  buffer_padding = seen_standard rows name.BufferPadding;
  primary_selection = seen_standard rows name.PrimarySelection;
  secondary_selection = seen_standard rows name.SecondarySelection;
  primary_cursor = seen_standard rows name.PrimaryCursor;
  secondary_cursor = seen_standard rows name.SecondaryCursor;
  primary_cursor_eol = seen_standard rows name.PrimaryCursorEol;
  secondary_cursor_eol = seen_standard rows name.SecondaryCursorEol;
  status_line = seen_standard rows name.StatusLine;
  status_cursor = seen_standard rows name.StatusCursor;
  prompt = seen_standard rows name.Prompt;
  error = seen_standard rows name.Error;
  information = seen_standard rows name.Information;
  line_numbers = seen_standard rows name.LineNumbers;
  line_number_cursor = seen_standard rows name.LineNumberCursor;
  whitespace = seen_standard rows name.Whitespace;
}

-- the face of a name in a palette
abbrev pub palette_face : Palette → StandardFace → Face
palette_face palette name.Default = palette.default
palette_face palette name.BufferPadding = palette.buffer_padding
palette_face palette name.PrimarySelection = palette.primary_selection
palette_face palette name.SecondarySelection = palette.secondary_selection
palette_face palette name.PrimaryCursor = palette.primary_cursor
palette_face palette name.SecondaryCursor = palette.secondary_cursor
palette_face palette name.PrimaryCursorEol = palette.primary_cursor_eol
palette_face palette name.SecondaryCursorEol = palette.secondary_cursor_eol
palette_face palette name.StatusLine = palette.status_line
palette_face palette name.StatusCursor = palette.status_cursor
palette_face palette name.Prompt = palette.prompt
palette_face palette name.Error = palette.error
palette_face palette name.Information = palette.information
palette_face palette name.LineNumbers = palette.line_numbers
palette_face palette name.LineNumberCursor = palette.line_number_cursor
palette_face palette name.Whitespace = palette.whitespace
