-- The faces that are set from the start.
use Rattle.std.specs.Prelude.{true, false}
use Rattle.kak_faces.specs.declared.colour.NamedColour.{NamedColour}
use Rattle.kak_faces.specs.declared.colour.NamedColour.TheVariants as named
use Rattle.kak_faces.specs.declared.colour.Colour.TheVariants.{Named}
use Rattle.kak_faces.specs.declared.colour.Attributes.{Attributes}
use Rattle.kak_faces.specs.declared.face.Face.{Face}
use Rattle.kak_faces.specs.declared.standard.StandardFace.{StandardFace}
use Rattle.kak_faces.specs.declared.standard.StandardFace.TheVariants as name
use Rattle.kak_faces.specs.Colours.{default_colour}

-- no attribute at all
abbrev pub no_attributes : Attributes
no_attributes = record {
  underline = false;
  reverse = false;
  bold = false;
  blink = false;
  dim = false;
  italic = false;
  final_fg = false;
  final_bg = false;
  final_attr = false;
}

-- two named colours, without attributes
abbrev pub plain_face : NamedColour → NamedColour → Face
plain_face fg bg = record { fg = Named fg; bg = Named bg; underline = default_colour; attributes = no_attributes }

-- all colours default, no attributes
abbrev pub default_face : Face
default_face = plain_face named.Default named.Default

-- the face that a name has at the start
abbrev pub standard_face : StandardFace → Face
standard_face name.Default = default_face
standard_face name.BufferPadding = plain_face named.Blue named.Default
standard_face name.PrimarySelection = plain_face named.White named.Blue
standard_face name.SecondarySelection = plain_face named.Black named.Blue
standard_face name.PrimaryCursor = plain_face named.Black named.White
standard_face name.SecondaryCursor = plain_face named.Black named.White
standard_face name.PrimaryCursorEol = plain_face named.Black named.Cyan
standard_face name.SecondaryCursorEol = plain_face named.Black named.Cyan
standard_face name.StatusLine = plain_face named.Cyan named.Default
standard_face name.StatusCursor = plain_face named.Black named.Cyan
standard_face name.Prompt = plain_face named.Yellow named.Default
standard_face name.Error = plain_face named.Black named.Red
standard_face name.Information = plain_face named.Black named.Yellow
standard_face name.LineNumbers = default_face
standard_face name.LineNumberCursor = record default_face { attributes = record no_attributes { reverse = true } }
standard_face name.Whitespace = record default_face { attributes = record no_attributes { dim = true } }
