-- Faces that are the same are equal.
use Rattle.std.proofs.Common.{◌≡◌, ℕ, Bool, true, false, ◌&&◌, eqb, eqb-true, List, [], ◌∷◌, get_or, refl, sym, ap, ◌∙◌}
use Rattle.std.proofs.lemmas.Bool.{and_parts}
use Rattle.kak_faces.specs.declared.colour.NamedColour.{NamedColour}
use Rattle.kak_faces.specs.declared.colour.NamedColour.TheVariants as named
use Rattle.kak_faces.specs.declared.colour.Colour.{Colour}
use Rattle.kak_faces.specs.declared.colour.Colour.TheVariants.{Named, Rgb}
use Rattle.kak_faces.specs.declared.colour.Attributes.{Attributes}
use Rattle.kak_faces.specs.declared.face.Face.{Face}
use Rattle.kak_faces.specs.Same.{palette_place, same_colour, same_word, same_attributes, same_face}

-- the colours in the order of the palette
abbrev palette : List NamedColour
palette =
    named.Default ∷ named.Black ∷ named.Red ∷ named.Green ∷ named.Yellow ∷ named.Blue ∷ named.Magenta ∷ named.Cyan ∷ named.White
    ∷ named.BrightBlack ∷ named.BrightRed ∷ named.BrightGreen ∷ named.BrightYellow ∷ named.BrightBlue ∷ named.BrightMagenta ∷ named.BrightCyan ∷ named.BrightWhite ∷ []

in_palette : (a : NamedColour) → get_or palette (palette_place a) named.Default ≡ a
in_palette named.Default = refl
in_palette named.Black = refl
in_palette named.Red = refl
in_palette named.Green = refl
in_palette named.Yellow = refl
in_palette named.Blue = refl
in_palette named.Magenta = refl
in_palette named.Cyan = refl
in_palette named.White = refl
in_palette named.BrightBlack = refl
in_palette named.BrightRed = refl
in_palette named.BrightGreen = refl
in_palette named.BrightYellow = refl
in_palette named.BrightBlue = refl
in_palette named.BrightMagenta = refl
in_palette named.BrightCyan = refl
in_palette named.BrightWhite = refl

equal_names : (a b : NamedColour) → eqb (palette_place a) (palette_place b) ≡ true → a ≡ b
equal_names a b h = sym (in_palette a) ∙ ap (λ n. get_or palette n named.Default) (eqb-true (palette_place a) (palette_place b) h) ∙ in_palette b

equal_colours : (a b : Colour) → same_colour a b ≡ true → a ≡ b
equal_colours (Named a) (Named b) h = ap (λ n. Named n) (equal_names a b h)
equal_colours (Named a) (Rgb x y z) h = cc
equal_colours (Rgb r g b) (Named a) h = cc
equal_colours (Rgb r g b) (Rgb x y z) h =
    let first : (eqb r x && eqb g y) ≡ true = (and_parts (eqb r x && eqb g y) (eqb b z) h).0 in
    let er : r ≡ x = eqb-true r x ((and_parts (eqb r x) (eqb g y) first).0) in
    let eg : g ≡ y = eqb-true g y ((and_parts (eqb r x) (eqb g y) first).1) in
    let eb : b ≡ z = eqb-true b z ((and_parts (eqb r x && eqb g y) (eqb b z) h).1) in
    rw (er, eg, eb) refl

equal_words : (a b : Bool) → same_word a b ≡ true → a ≡ b
equal_words true true h = refl
equal_words true false h = sym h
equal_words false true h = h
equal_words false false h = refl

all_nine : (a b c d e f g h i : Bool) → (a && b && c && d && e && f && g && h && i) ≡ true
    → (a ≡ true) × (b ≡ true) × (c ≡ true) × (d ≡ true) × (e ≡ true) × (f ≡ true) × (g ≡ true) × (h ≡ true) × (i ≡ true)
all_nine a b c d e f g h i p =
    let p8 : (a && b && c && d && e && f && g && h) ≡ true = (and_parts (a && b && c && d && e && f && g && h) i p).0 in
    let p7 : (a && b && c && d && e && f && g) ≡ true = (and_parts (a && b && c && d && e && f && g) h p8).0 in
    let p6 : (a && b && c && d && e && f) ≡ true = (and_parts (a && b && c && d && e && f) g p7).0 in
    let p5 : (a && b && c && d && e) ≡ true = (and_parts (a && b && c && d && e) f p6).0 in
    let p4 : (a && b && c && d) ≡ true = (and_parts (a && b && c && d) e p5).0 in
    let p3 : (a && b && c) ≡ true = (and_parts (a && b && c) d p4).0 in
    let p2 : (a && b) ≡ true = (and_parts (a && b) c p3).0 in (
      (and_parts a b p2).0,
      (and_parts a b p2).1,
      (and_parts (a && b) c p3).1,
      (and_parts (a && b && c) d p4).1,
      (and_parts (a && b && c && d) e p5).1,
      (and_parts (a && b && c && d && e) f p6).1,
      (and_parts (a && b && c && d && e && f) g p7).1,
      (and_parts (a && b && c && d && e && f && g) h p8).1,
      (and_parts (a && b && c && d && e && f && g && h) i p).1,
    )

equal_attributes : (a b : Attributes) → same_attributes a b ≡ true → a ≡ b
equal_attributes a b h =
    let p = all_nine (same_word a.underline b.underline) (same_word a.reverse b.reverse) (same_word a.bold b.bold) (same_word a.blink b.blink) (same_word a.dim b.dim)
    (same_word a.italic b.italic) (same_word a.final_fg b.final_fg) (same_word a.final_bg b.final_bg) (same_word a.final_attr b.final_attr) h in
    rw (
      equal_words a.underline b.underline p.0,
      equal_words a.reverse b.reverse p.1,
      equal_words a.bold b.bold p.2,
      equal_words a.blink b.blink p.3,
      equal_words a.dim b.dim p.4,
      equal_words a.italic b.italic p.5,
      equal_words a.final_fg b.final_fg p.6,
      equal_words a.final_bg b.final_bg p.7,
      equal_words a.final_attr b.final_attr p.8,
    ) refl

-- faces that are the same are equal
pub equal_faces : (a b : Face) → same_face a b ≡ true → a ≡ b
equal_faces a b h =
    let fg : Bool = same_colour a.fg b.fg in
    let bg : Bool = same_colour a.bg b.bg in
    let line : Bool = same_colour a.underline b.underline in
    let words : Bool = same_attributes a.attributes b.attributes in
    let p3 : (fg && bg && line) ≡ true = (and_parts (fg && bg && line) words h).0 in
    let p2 : (fg && bg) ≡ true = (and_parts (fg && bg) line p3).0 in
    rw (
      equal_colours a.fg b.fg ((and_parts fg bg p2).0),
      equal_colours a.bg b.bg ((and_parts fg bg p2).1),
      equal_colours a.underline b.underline ((and_parts (fg && bg) line p3).1),
      equal_attributes a.attributes b.attributes ((and_parts (fg && bg && line) words h).1),
    ) refl
