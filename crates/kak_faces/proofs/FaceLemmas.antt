-- The merge at the default face, and of a face with itself.
use Rattle.std.proofs.Common.{◌≡◌, Bool, true, false, cond, refl}
use Rattle.std.proofs.Math.Bool.{or-false, or_self}
use Rattle.kak_faces.specs.declared.colour.NamedColour.TheVariants as named
use Rattle.kak_faces.specs.declared.colour.Colour.{Colour}
use Rattle.kak_faces.specs.declared.colour.Colour.TheVariants.{Named, Rgb}
use Rattle.kak_faces.specs.declared.colour.Attributes.{Attributes}
use Rattle.kak_faces.specs.declared.face.Face.{Face}
use Rattle.kak_faces.specs.Colours.{default_colour, is_default, united}
use Rattle.kak_faces.specs.Faces.{merged, merged_colour, merged_attributes}
use Rattle.kak_faces.specs.Standard.{no_attributes, default_face}

cond_same : {A : Type 0} (b : Bool) (x : A) → cond b x x ≡ x
cond_same {A} b x = elim b as (λ v. cond v x x ≡ x) [ true ↦ refl | false ↦ refl ]

colour-default_over : (base : Colour) (final : Bool) → merged_colour base final default_colour false ≡ base
colour-default_over base final = cond_same final base

-- whatever colour it is, the default colour below it isn't seen
seen : (over : Colour) → cond (is_default over) default_colour over ≡ over
seen (Named named.Default) = refl
seen (Named _) = refl
seen (Rgb red green blue) = refl

colour-default_below : (over : Colour) (final : Bool) → merged_colour default_colour false over final ≡ over
colour-default_below over final =
    elim final as (λ v. merged_colour default_colour false over v ≡ over) [ true ↦ refl | false ↦ seen over ]

colour-itself : (c : Colour) (below above : Bool) → merged_colour c below c above ≡ c
colour-itself c below above =
    rw (cond_same (is_default c) c, cond_same below c, cond_same above c) refl

attributes-default_over : (a : Attributes) → merged_attributes a no_attributes ≡ a
attributes-default_over a =
    let same : united a no_attributes ≡ a = simp or-false in rw same (cond_same a.final_attr a)

attributes-default_below : (a : Attributes) → merged_attributes no_attributes a ≡ a
attributes-default_below a = cond_same a.final_attr a

attributes-itself : (a : Attributes) → merged_attributes a a ≡ a
attributes-itself a =
    let same : united a a ≡ a = simp or_self in rw (same, cond_same a.final_attr a) (cond_same a.final_attr a)

-- the default face above
pub merged-default_over : (f : Face) → merged f default_face ≡ f
merged-default_over f =
    rw (colour-default_over f.fg f.attributes.final_fg, colour-default_over f.bg f.attributes.final_bg, attributes-default_over f.attributes) refl

-- the default face below
pub merged-default_below : (f : Face) → merged default_face f ≡ f
merged-default_below f =
    rw (colour-default_below f.fg f.attributes.final_fg, colour-default_below f.bg f.attributes.final_bg, colour-default_below f.underline false, attributes-default_below f.attributes) refl

-- a face over itself
pub merged-itself : (f : Face) → merged f f ≡ f
merged-itself f =
    rw (colour-itself f.fg f.attributes.final_fg f.attributes.final_fg, colour-itself f.bg f.attributes.final_bg f.attributes.final_bg, colour-itself f.underline false false, attributes-itself f.attributes) refl
