-- How one face lies over another.
use Rattle.std.specs.Prelude.{Bool, false, if◌then◌else◌}
use Rattle.kak_faces.specs.declared.colour.Colour.{Colour}
use Rattle.kak_faces.specs.declared.colour.Attributes.{Attributes}
use Rattle.kak_faces.specs.declared.face.Face.{Face}
use Rattle.kak_faces.specs.Colours.{is_default, united}

-- the colour that is seen: a final one of `over`, else a final one of `base`, else that of `over`
-- unless it is the default colour
abbrev pub merged_colour : Colour → Bool → Colour → Bool → Colour
merged_colour base base_final over over_final =
    if over_final then over else (if base_final then base else (if is_default over then base else over))

-- the attributes that hold: final ones of `over`, else final ones of `base`, else both together
abbrev pub merged_attributes : Attributes → Attributes → Attributes
merged_attributes base over =
    if over.final_attr then over else (if base.final_attr then base else united base over)

-- the face that is seen where `over` lies over `base`
abbrev pub merged : Face → Face → Face
merged base over = record {
  fg = merged_colour base.fg base.attributes.final_fg over.fg over.attributes.final_fg;
  bg = merged_colour base.bg base.attributes.final_bg over.bg over.attributes.final_bg;
  underline = merged_colour base.underline false over.underline false;
  attributes = merged_attributes base.attributes over.attributes;
}
