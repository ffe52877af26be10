-- A cover with one more face below it.
use Rattle.std.proofs.Common.{◌≡◌, Bool, true, false, cond, ◌||◌, refl, ap, sym, ◌∙◌}
use Rattle.std.proofs.Math.Bool.{or-false}
use Rattle.tables.proofs.TableLemmas.{by_test}
use Rattle.kak_faces.specs.declared.colour.Colour.{Colour}
use Rattle.kak_faces.specs.declared.colour.Attributes.{Attributes}
use Rattle.kak_faces.specs.declared.face.Face.{Face}
use Rattle.kak_faces.specs.Colours.{is_default, united}
use Rattle.kak_faces.specs.Faces.{merged, merged_colour, merged_attributes}
use Rattle.kak_faces.specs.Standard.{no_attributes}
use Rattle.face_texts.specs.declared.cover.Choice.{Choice}
use Rattle.face_texts.specs.declared.cover.Choice.TheVariants.{Clear, Loose, Firm, Settled}
use Rattle.face_texts.specs.declared.cover.Cover.{Cover}
use Rattle.face_texts.specs.Covers.{seen_through, lowered, attributes_through, attributes_lowered, no_cover, cover_on, face_through}

-- whether a word holds of a face over another, by whether the attributes of each are final
abbrev pub of_both : Bool → Bool → Bool → Bool → Bool
of_both over_kept base_kept over base = cond over_kept over (cond base_kept base (base || over))

clear : (is_plain final : Bool) (colour below : Colour) (kept : Bool) → seen_through (cond is_plain Clear (Loose colour)) below kept final ≡ cond final below (cond is_plain below colour)
clear true true colour below kept = refl
clear true false colour below kept = refl
clear false final colour below kept = refl

-- a colour is seen through one more face as through that face's colour merged over what lies below
choice-lowered : (choice : Choice) (colour : Colour) (kept final : Bool) (below : Colour) (base_kept base_final : Bool) → seen_through (lowered choice colour kept final) below base_kept base_final ≡ seen_through choice (merged_colour below base_final colour final) (of_both kept base_kept kept base_kept) (of_both kept base_kept final base_final)
choice-lowered Clear colour kept true below base_kept base_final = refl
choice-lowered Clear colour kept false below base_kept base_final = clear (is_default colour) base_final colour below base_kept
choice-lowered (Loose loose) colour true true below base_kept base_final = refl
choice-lowered (Loose loose) colour true false below base_kept base_final = refl
choice-lowered (Loose loose) colour false true below true true = refl
choice-lowered (Loose loose) colour false true below true false = refl
choice-lowered (Loose loose) colour false true below false true = refl
choice-lowered (Loose loose) colour false true below false false = refl
choice-lowered (Loose loose) colour false false below true true = refl
choice-lowered (Loose loose) colour false false below true false = refl
choice-lowered (Loose loose) colour false false below false true = refl
choice-lowered (Loose loose) colour false false below false false = refl
choice-lowered (Firm loose firm) colour true true below base_kept base_final = refl
choice-lowered (Firm loose firm) colour true false below base_kept base_final = refl
choice-lowered (Firm loose firm) colour false final below true base_final = refl
choice-lowered (Firm loose firm) colour false final below false base_final = refl
choice-lowered (Settled settled) colour kept final below base_kept base_final = refl

-- what the attributes of a face over another say of the three words
kept_of : (base over : Attributes) → (merged_attributes base over).final_attr ≡ of_both over.final_attr base.final_attr over.final_attr base.final_attr
kept_of base over =
    elim (over.final_attr) as (λ v. (cond v over (cond base.final_attr base (united base over))).final_attr ≡ of_both v base.final_attr over.final_attr base.final_attr) [
      | true ↦ refl
      | false ↦ elim (base.final_attr) as (λ w. (cond w base (united base over)).final_attr ≡ cond w base.final_attr (base.final_attr || over.final_attr)) [ true ↦ refl | false ↦ refl ]
    ]

fg_of : (base over : Attributes) → (merged_attributes base over).final_fg ≡ of_both over.final_attr base.final_attr over.final_fg base.final_fg
fg_of base over =
    elim (over.final_attr) as (λ v. (cond v over (cond base.final_attr base (united base over))).final_fg ≡ of_both v base.final_attr over.final_fg base.final_fg) [
      | true ↦ refl
      | false ↦ elim (base.final_attr) as (λ w. (cond w base (united base over)).final_fg ≡ cond w base.final_fg (base.final_fg || over.final_fg)) [ true ↦ refl | false ↦ refl ]
    ]

bg_of : (base over : Attributes) → (merged_attributes base over).final_bg ≡ of_both over.final_attr base.final_attr over.final_bg base.final_bg
bg_of base over =
    elim (over.final_attr) as (λ v. (cond v over (cond base.final_attr base (united base over))).final_bg ≡ of_both v base.final_attr over.final_bg base.final_bg) [
      | true ↦ refl
      | false ↦ elim (base.final_attr) as (λ w. (cond w base (united base over)).final_bg ≡ cond w base.final_bg (base.final_bg || over.final_bg)) [ true ↦ refl | false ↦ refl ]
    ]

or_of_three : (x y z : Bool) → ((x || y) || z) ≡ (x || (y || z))
or_of_three true y z = refl
or_of_three false y z = refl

-- three sets of attributes, whichever two are united first
united-three : (x y z : Attributes) → united (united x y) z ≡ united x (united y z)
united-three x y z = simp or_of_three

-- attributes are seen through one more face as through its attributes merged over those below
attributes-on : (settled : Bool) (attributes more below : Attributes) → attributes_through (settled || more.final_attr) (attributes_lowered settled attributes more) below ≡ attributes_through settled attributes (merged_attributes below more)
attributes-on true attributes more below = refl
attributes-on false attributes more below =
    by_test (λ v. v ≡ more.final_attr → cond v (cond v more (united more attributes)) (cond below.final_attr below (united below (cond v more (united more attributes))))
    ≡ cond (cond v more (cond below.final_attr below (united below more))).final_attr (cond v more (cond below.final_attr below (united below more))) (united (cond v more (cond below.final_attr below (united below more))) attributes)) more.final_attr
    (λ _ e. ap (λ b. cond b more (united more attributes)) e)
    (λ _ e. by_test (λ w. w ≡ below.final_attr → cond w below (united below (united more attributes))
    ≡ cond (cond w below (united below more)).final_attr (cond w below (united below more)) (united (cond w below (united below more)) attributes)) below.final_attr
    (λ _ f. ap (λ b. cond b below (united below attributes)) f)
    (λ _ f. sym (united-three below more attributes) ∙ ap (λ b. cond b (united below more) (united (united below more) attributes)) (ap (λ b. b || false) f ∙ ap (λ b. below.final_attr || b) e))
    refl)
    refl

abbrev pub face_of_parts : Colour → Colour → Colour → Attributes → Face
face_of_parts fg bg underline attributes = record { fg = fg; bg = bg; underline = underline; attributes = attributes }

same_parts : (f1 f2 b1 b2 u1 u2 : Colour) (a1 a2 : Attributes) → f1 ≡ f2 → b1 ≡ b2 → u1 ≡ u2 → a1 ≡ a2 → face_of_parts f1 b1 u1 a1 ≡ face_of_parts f2 b2 u2 a2
same_parts f1 f2 b1 b2 u1 u2 a1 a2 f b u a =
    ap (λ x. face_of_parts x b1 u1 a1) f ∙ ap (λ x. face_of_parts f2 x u1 a1) b ∙ ap (λ x. face_of_parts f2 b2 x a1) u ∙ ap (λ x. face_of_parts f2 b2 u2 x) a

-- a face is seen through one more as through that one merged over it
pub cover-on : (cover : Cover) (face below : Face) → face_through (cover_on cover face) below ≡ face_through cover (merged below face)
cover-on cover face below =
    same_parts _ _ _ _ _ _ _ _
    (choice-lowered cover.fg face.fg face.attributes.final_attr face.attributes.final_fg below.fg below.attributes.final_attr below.attributes.final_fg
    ∙ sym (ap (λ k. seen_through cover.fg (merged below face).fg k (merged below face).attributes.final_fg) (kept_of below.attributes face.attributes)
    ∙ ap (λ f. seen_through cover.fg (merged below face).fg (of_both face.attributes.final_attr below.attributes.final_attr face.attributes.final_attr below.attributes.final_attr) f) (fg_of below.attributes face.attributes)))
    (choice-lowered cover.bg face.bg face.attributes.final_attr face.attributes.final_bg below.bg below.attributes.final_attr below.attributes.final_bg
    ∙ sym (ap (λ k. seen_through cover.bg (merged below face).bg k (merged below face).attributes.final_bg) (kept_of below.attributes face.attributes)
    ∙ ap (λ f. seen_through cover.bg (merged below face).bg (of_both face.attributes.final_attr below.attributes.final_attr face.attributes.final_attr below.attributes.final_attr) f) (bg_of below.attributes face.attributes)))
    (choice-lowered cover.underline face.underline false false below.underline false false)
    (attributes-on cover.is_settled cover.attributes face.attributes below.attributes)

-- through nothing a face is seen itself
same_either : (b : Bool) (a : Attributes) → cond b a a ≡ a
same_either true a = refl
same_either false a = refl

pub cover-none : (face : Face) → face_through no_cover face ≡ face
cover-none face =
    let plain : united face.attributes no_attributes ≡ face.attributes = simp or-false in
    ap (λ a. face_of_parts face.fg face.bg face.underline a) (ap (λ u. cond face.attributes.final_attr face.attributes u) plain ∙ same_either face.attributes.final_attr face.attributes)
