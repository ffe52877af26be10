-- Atoms are maximal runs, and spell the characters that they were made of.
use Rattle.std.proofs.Common.{◌≡◌, ℕ, ◌<◌, Bool, true, false, ◌&&◌, cond, eqb, eqb-true, List, [], ◌∷◌, ◌++◌, length, get_or, refl, sym, ap, ap₂, ◌∙◌, arith, append_assoc, append-nil, length-append}
use Rattle.std.proofs.lemmas.List.{map-append}
use Rattle.kak_faces.specs.declared.colour.NamedColour.{NamedColour}
use Rattle.kak_faces.specs.declared.colour.NamedColour.TheVariants as named
use Rattle.kak_faces.specs.declared.colour.Colour.{Colour}
use Rattle.kak_faces.specs.declared.colour.Colour.TheVariants.{Named, Rgb}
use Rattle.kak_faces.specs.declared.colour.Attributes.{Attributes}
use Rattle.kak_faces.specs.declared.face.Face.{Face}
use Rattle.kak_faces.specs.Same.{palette_place, same_colour, same_word, same_attributes, same_face}
use Rattle.drawings.specs.declared.drawing.Atom.{Atom}
use Rattle.line_painting.specs.Atoms.{ShownChar, shown_in, atom_of, atom_longer, with_shown, with_all_shown, atoms_of}
use Rattle.line_painting.specs.Laws.{spelled, AreRuns}

and_left : (a b : Bool) → (a && b) ≡ true → a ≡ true
and_left true b h = refl
and_left false b h = h

and_right : (a b : Bool) → (a && b) ≡ true → b ≡ true
and_right true b h = h
and_right false b h = cc

-- the colours in the order of the palette
abbrev palette : List NamedColour
palette =
    named.Default ∷ named.Black ∷ named.Red ∷ named.Green ∷ named.Yellow ∷ named.Blue ∷ named.Magenta ∷ named.Cyan ∷ named.White
    ∷ named.BrightBlack ∷ named.BrightRed ∷ named.BrightGreen ∷ named.BrightYellow ∷ named.BrightBlue ∷ named.BrightMagenta ∷ named.BrightCyan ∷ named.BrightWhite ∷ []

in_palette : (a : NamedColour) → get_or palette (palette_place a) named.Default ≡ a
in_palette named.Default = refl
in_palette named.Black = refl
in_palette named.Red = refl
in_palette named.Green = refl
in_palette named.Yellow = refl
in_palette named.Blue = refl
in_palette named.Magenta = refl
in_palette named.Cyan = refl
in_palette named.White = refl
in_palette named.BrightBlack = refl
in_palette named.BrightRed = refl
in_palette named.BrightGreen = refl
in_palette named.BrightYellow = refl
in_palette named.BrightBlue = refl
in_palette named.BrightMagenta = refl
in_palette named.BrightCyan = refl
in_palette named.BrightWhite = refl

equal_names : (a b : NamedColour) → eqb (palette_place a) (palette_place b) ≡ true → a ≡ b
equal_names a b h = sym (in_palette a) ∙ ap (λ n. get_or palette n named.Default) (eqb-true (palette_place a) (palette_place b) h) ∙ in_palette b

equal_colours : (a b : Colour) → same_colour a b ≡ true → a ≡ b
equal_colours (Named a) (Named b) h = ap (λ n. Named n) (equal_names a b h)
equal_colours (Named a) (Rgb x y z) h = cc
equal_colours (Rgb r g b) (Named a) h = cc
equal_colours (Rgb r g b) (Rgb x y z) h =
    let first : (eqb r x && eqb g y) ≡ true = and_left (eqb r x && eqb g y) (eqb b z) h in
    let er : r ≡ x = eqb-true r x (and_left (eqb r x) (eqb g y) first) in
    let eg : g ≡ y = eqb-true g y (and_right (eqb r x) (eqb g y) first) in
    let eb : b ≡ z = eqb-true b z (and_right (eqb r x && eqb g y) (eqb b z) h) in
    rw (er, eg, eb) refl

equal_words : (a b : Bool) → same_word a b ≡ true → a ≡ b
equal_words true true h = refl
equal_words true false h = sym h
equal_words false true h = h
equal_words false false h = refl

all_nine : (a b c d e f g h i : Bool) → (a && b && c && d && e && f && g && h && i) ≡ true
    → (a ≡ true) × (b ≡ true) × (c ≡ true) × (d ≡ true) × (e ≡ true) × (f ≡ true) × (g ≡ true) × (h ≡ true) × (i ≡ true)
all_nine a b c d e f g h i p =
    let p8 : (a && b && c && d && e && f && g && h) ≡ true = and_left (a && b && c && d && e && f && g && h) i p in
    let p7 : (a && b && c && d && e && f && g) ≡ true = and_left (a && b && c && d && e && f && g) h p8 in
    let p6 : (a && b && c && d && e && f) ≡ true = and_left (a && b && c && d && e && f) g p7 in
    let p5 : (a && b && c && d && e) ≡ true = and_left (a && b && c && d && e) f p6 in
    let p4 : (a && b && c && d) ≡ true = and_left (a && b && c && d) e p5 in
    let p3 : (a && b && c) ≡ true = and_left (a && b && c) d p4 in
    let p2 : (a && b) ≡ true = and_left (a && b) c p3 in (
      and_left a b p2,
      and_right a b p2,
      and_right (a && b) c p3,
      and_right (a && b && c) d p4,
      and_right (a && b && c && d) e p5,
      and_right (a && b && c && d && e) f p6,
      and_right (a && b && c && d && e && f) g p7,
      and_right (a && b && c && d && e && f && g) h p8,
      and_right (a && b && c && d && e && f && g && h) i p,
    )

equal_attributes : (a b : Attributes) → same_attributes a b ≡ true → a ≡ b
equal_attributes a b h =
    let p = all_nine (same_word a.underline b.underline) (same_word a.reverse b.reverse) (same_word a.bold b.bold) (same_word a.blink b.blink) (same_word a.dim b.dim)
    (same_word a.italic b.italic) (same_word a.final_fg b.final_fg) (same_word a.final_bg b.final_bg) (same_word a.final_attr b.final_attr) h in
    rw (
      equal_words a.underline b.underline p.0,
      equal_words a.reverse b.reverse p.1,
      equal_words a.bold b.bold p.2,
      equal_words a.blink b.blink p.3,
      equal_words a.dim b.dim p.4,
      equal_words a.italic b.italic p.5,
      equal_words a.final_fg b.final_fg p.6,
      equal_words a.final_bg b.final_bg p.7,
      equal_words a.final_attr b.final_attr p.8,
    ) refl

-- faces that are the same are equal
pub equal_faces : (a b : Face) → same_face a b ≡ true → a ≡ b
equal_faces a b h =
    let fg : Bool = same_colour a.fg b.fg in
    let bg : Bool = same_colour a.bg b.bg in
    let line : Bool = same_colour a.underline b.underline in
    let words : Bool = same_attributes a.attributes b.attributes in
    let p3 : (fg && bg && line) ≡ true = and_left (fg && bg && line) words h in
    let p2 : (fg && bg) ≡ true = and_left (fg && bg) line p3 in
    rw (
      equal_colours a.fg b.fg (and_left fg bg p2),
      equal_colours a.bg b.bg (and_right fg bg p2),
      equal_colours a.underline b.underline (and_right (fg && bg) line p3),
      equal_attributes a.attributes b.attributes (and_right (fg && bg && line) words h),
    ) refl

-- one more character keeps the runs
runs-one : (a : Atom) (s : ShownChar) (t : Bool) → same_face a.face s.face ≡ t → 0 < length a.contents → AreRuns (cond t (atom_longer a s.char ∷ []) (a ∷ atom_of s ∷ []))
runs-one a s true e h = omega (arith, length-append a.contents (s.char ∷ []))
runs-one a s false e h = (h, e, omega arith)

runs-two : (a b : Atom) (s : ShownChar) (t : Bool) → same_face b.face s.face ≡ t → AreRuns (a ∷ b ∷ []) → AreRuns (a ∷ cond t (atom_longer b s.char ∷ []) (b ∷ atom_of s ∷ []))
runs-two a b s true e h = (h.0, h.1, runs-one b s true e h.2)
runs-two a b s false e h = (h.0, h.1, runs-one b s false e h.2)

runs-more : (atoms : List Atom) (s : ShownChar) → AreRuns atoms → AreRuns (with_shown atoms s)
runs-more [] s h = omega arith
runs-more (a ∷ []) s h = runs-one a s (same_face a.face s.face) refl h
runs-more (a ∷ b ∷ []) s h = runs-two a b s (same_face b.face s.face) refl h
runs-more (a ∷ b ∷ x ∷ atoms) s h = (h.0, h.1, runs-more (b ∷ x ∷ atoms) s h.2)

runs-all : (atoms : List Atom) (shown : List ShownChar) → AreRuns atoms → AreRuns (with_all_shown atoms shown)
runs-all atoms [] h = h
runs-all atoms (s ∷ shown) h = runs-all (with_shown atoms s) shown (runs-more atoms s h)

-- atoms are maximal runs
pub atoms_of-runs : (shown : List ShownChar) → AreRuns (atoms_of shown)
atoms_of-runs shown = runs-all [] shown tt

-- one more character is spelled behind the others
spelled-one : (a : Atom) (s : ShownChar) (t : Bool) → same_face a.face s.face ≡ t → spelled (cond t (atom_longer a s.char ∷ []) (a ∷ atom_of s ∷ [])) ≡ spelled (a ∷ []) ++ s ∷ []
spelled-one a s true e =
    ap (λ (r : List ShownChar). r ++ []) (map-append (λ (c : ℕ). let x : ShownChar = record { char = c; face = a.face } in x) a.contents (s.char ∷ []))
    ∙ append-nil (shown_in a.face a.contents ++ record { char = s.char; face = a.face } ∷ [])
    ∙ ap₂ (λ (r : List ShownChar) (f : Face). r ++ record { char = s.char; face = f } ∷ []) (sym (append-nil (shown_in a.face a.contents))) (equal_faces a.face s.face e)
spelled-one a s false e = ap (λ (r : List ShownChar). r ++ s ∷ []) (sym (append-nil (shown_in a.face a.contents)))

spelled-more : (atoms : List Atom) (s : ShownChar) → spelled (with_shown atoms s) ≡ spelled atoms ++ s ∷ []
spelled-more [] s = refl
spelled-more (a ∷ []) s = spelled-one a s (same_face a.face s.face) refl
spelled-more (a ∷ b ∷ atoms) s =
    ap (λ r. shown_in a.face a.contents ++ r) (spelled-more (b ∷ atoms) s) ∙ sym (append_assoc (shown_in a.face a.contents) (spelled (b ∷ atoms)) (s ∷ []))

spelled-all : (atoms : List Atom) (shown : List ShownChar) → spelled (with_all_shown atoms shown) ≡ spelled atoms ++ shown
spelled-all atoms [] = sym (append-nil (spelled atoms))
spelled-all atoms (s ∷ shown) =
    spelled-all (with_shown atoms s) shown ∙ ap (λ r. r ++ shown) (spelled-more atoms s) ∙ append_assoc (spelled atoms) (s ∷ []) shown

-- atoms spell the characters that they were made of
pub spelled-atoms_of : (shown : List ShownChar) → spelled (atoms_of shown) ≡ shown
spelled-atoms_of shown = spelled-all [] shown
