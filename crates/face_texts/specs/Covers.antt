-- What a row of faces that lie one over another makes of a face below them, kept without the row.
use Rattle.std.specs.Prelude.{◌&&◌, ◌||◌, not, Bool, true, false, if◌then◌else◌}
use Rattle.kak_faces.specs.declared.colour.Colour.{Colour}
use Rattle.kak_faces.specs.declared.colour.Attributes.{Attributes}
use Rattle.kak_faces.specs.declared.face.Face.{Face}
use Rattle.kak_faces.specs.Colours.{is_default, united}
use Rattle.kak_faces.specs.Standard.{no_attributes}
use Rattle.face_texts.specs.declared.cover.Choice.{Choice}
use Rattle.face_texts.specs.declared.cover.Choice.TheVariants.{Clear, Loose, Firm, Settled}
use Rattle.face_texts.specs.declared.cover.Cover.{Cover}

-- the colour that is seen, by the colour of the face below, by whether that face's attributes are final, and by whether its
-- colour is: Clear is seen through, Loose is seen unless the colour below is final, Firm is seen unless the attributes below
-- are final and the colour isn't, and Settled is always seen
abbrev pub seen_through : Choice → Colour → Bool → Bool → Colour
seen_through Clear below is_kept is_final = below
seen_through (Loose colour) below is_kept is_final = if is_final then below else colour
seen_through (Firm loose colour) below is_kept is_final = if is_kept && not is_final then loose else colour
seen_through (Settled colour) below is_kept is_final = colour

-- the choice with one more face below, by its colour, and by whether its attributes and that colour are final
abbrev pub lowered : Choice → Colour → Bool → Bool → Choice
lowered Clear colour is_kept true = Settled colour
lowered Clear colour is_kept false = if is_default colour then Clear else Loose colour
lowered (Loose loose) colour true true = Settled colour
lowered (Loose loose) colour true false = Settled loose
lowered (Loose loose) colour false true = Firm loose colour
lowered (Loose loose) colour false false = Loose loose
lowered (Firm loose firm) colour true true = Settled firm
lowered (Firm loose firm) colour true false = Settled loose
lowered (Firm loose firm) colour false is_final = Firm loose firm
lowered (Settled settled) colour is_kept is_final = Settled settled

-- the attributes that are seen, by those of the face below
abbrev pub attributes_through : Bool → Attributes → Attributes → Attributes
attributes_through is_settled attributes below =
    if is_settled then attributes else (if below.final_attr then below else united below attributes)

-- the attributes with one more face below
abbrev pub attributes_lowered : Bool → Attributes → Attributes → Attributes
attributes_lowered is_settled attributes more =
    if is_settled then attributes else (if more.final_attr then more else united more attributes)

-- no face at all
abbrev pub no_cover : Cover
no_cover = record { fg = Clear; bg = Clear; underline = Clear; attributes = no_attributes; is_settled = false }

-- one more face below
abbrev pub cover_on : Cover → Face → Cover
cover_on cover face = record {
  fg = lowered cover.fg face.fg face.attributes.final_attr face.attributes.final_fg;
  bg = lowered cover.bg face.bg face.attributes.final_attr face.attributes.final_bg;
  underline = lowered cover.underline face.underline false false;
  attributes = attributes_lowered cover.is_settled cover.attributes face.attributes;
  is_settled = cover.is_settled || face.attributes.final_attr;
}

-- the face that is seen over one below
abbrev pub face_through : Cover → Face → Face
face_through cover below = record {
  fg = seen_through cover.fg below.fg below.attributes.final_attr below.attributes.final_fg;
  bg = seen_through cover.bg below.bg below.attributes.final_attr below.attributes.final_bg;
  underline = seen_through cover.underline below.underline false false;
  attributes = attributes_through cover.is_settled cover.attributes below.attributes;
}
