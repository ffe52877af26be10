-- The definitions at given faces.
use Rattle.std.specs.Prelude.{◌≡◌, true, codes}
use Rattle.kak_faces.specs.declared.colour.NamedColour.TheVariants as named
use Rattle.kak_faces.specs.declared.colour.Colour.TheVariants.{Named, Rgb}
use Rattle.kak_faces.specs.declared.face.Face.{Face}
use Rattle.kak_faces.specs.declared.standard.StandardFace.TheVariants as name
use Rattle.kak_faces.specs.Colours.{colour_name}
use Rattle.kak_faces.specs.Faces.{merged}
use Rattle.kak_faces.specs.Standard.{no_attributes, plain_face, standard_face}

-- a face whose foreground and attributes are final
abbrev pub kept_face : Face
kept_face = record (plain_face named.Red named.Green) {
  attributes = record no_attributes { bold = true; final_fg = true; final_attr = true };
}

-- the table of examples
pub record WorkedExamples : Type 0 where
  -- a selection's face over the default one
  pub selection : merged (standard_face name.Default) (standard_face name.PrimarySelection) ≡ plain_face named.White named.Blue
  -- a default background shows the one below
  pub seen_through : merged (standard_face name.PrimarySelection) (standard_face name.Prompt) ≡ plain_face named.Yellow named.Blue
  -- attributes of both
  pub both : (merged (standard_face name.Whitespace) (standard_face name.LineNumberCursor)).attributes ≡ record no_attributes { reverse = true; dim = true }
  -- a final foreground below stays, the background doesn't
  pub final_below : merged kept_face (standard_face name.PrimarySelection) ≡ record kept_face { bg = Named named.Blue }
  -- a final foreground above counts, and so do its final attributes
  pub final_above : merged (standard_face name.Whitespace) kept_face ≡ kept_face
  -- where both are final, the upper one counts
  pub final_both : (merged kept_face (record kept_face { fg = Rgb 1 2 3 })).fg ≡ Rgb 1 2 3
  -- a final colour counts also where it is the default colour
  pub final_default : (merged (standard_face name.Error) (record kept_face { fg = Named named.Default })).fg ≡ Named named.Default
  pub bright_name : colour_name named.BrightBlue ≡ codes "bright-blue"
