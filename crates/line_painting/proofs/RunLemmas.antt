-- How atoms grow by characters in one face.
use Rattle.std.proofs.Common.{◌≡◌, ℕ, ◌+◌, ◌<◌, Bool, true, false, List, [], ◌∷◌, ◌++◌, length, take, get_or, refl, sym, ap, ap₂, ◌∙◌, append_assoc, append-nil, eq-eqb, map, arith}
use Rattle.std.specs.Prelude.{◌==◌, flat_map}
use Rattle.kak_faces.specs.declared.colour.Colour.{Colour}
use Rattle.kak_faces.specs.declared.colour.Colour.TheVariants.{Named, Rgb}
use Rattle.kak_faces.specs.declared.face.Face.{Face}
use Rattle.kak_faces.specs.Same.{palette_place, same_colour, same_word, same_face}
use Rattle.drawings.specs.declared.drawing.Atom.{Atom}
use Rattle.std.proofs.lemmas.List.{map-append, take_more, length-map, get_or-map}
use Rattle.line_painting.specs.Atoms.{ShownChar, shown_in, atom_of, atom_longer, with_all_shown}
use Rattle.highlight_paint.specs.declared.numbering.LineNumbers.{LineNumbers}
use Rattle.highlight_paint.specs.Numbers.{Numbering, numbering}
use Rattle.line_painting.specs.Painting.{Grown, grown_by}
use Rattle.line_painting.proofs.AtomLemmas.{with_shown-same, with_shown-other, with_all_shown-append}
use Rattle.line_painting.proofs.LawLemmas.{equal_faces}

same_number : (n : ℕ) → (n == n) ≡ true
same_number n = eq-eqb n n refl

same_colour-itself : (c : Colour) → same_colour c c ≡ true
same_colour-itself (Named a) = same_number (palette_place a)
same_colour-itself (Rgb r g b) = rw (same_number r, same_number g, same_number b) refl

same_word-itself : (a : Bool) → same_word a a ≡ true
same_word-itself true = refl
same_word-itself false = refl

-- a face is the same as itself
pub same_face-itself : (f : Face) → same_face f f ≡ true
same_face-itself f = simp (same_colour-itself, same_word-itself)

-- the last atom has the face: it grows by all of them
pub run-same : (front : List Atom) (a : Atom) (face : Face) (cs : List ℕ) → same_face a.face face ≡ true
    → with_all_shown (front ++ a ∷ []) (shown_in face cs) ≡ front ++ record { contents = a.contents ++ cs; face = a.face } ∷ []
run-same front a face [] h = ap (λ (t : List ℕ). front ++ record { contents = t; face = a.face } ∷ []) (sym (append-nil a.contents))
run-same front a face (c ∷ cs) h =
    let s : ShownChar = record { char = c; face = face } in
    ap (λ r. with_all_shown r (shown_in face cs)) (with_shown-same front a s h)
    ∙ run-same front (atom_longer a c) face cs h
    ∙ ap (λ (t : List ℕ). front ++ record { contents = t; face = a.face } ∷ []) (append_assoc a.contents (c ∷ []) cs)

-- the last atom has another face: they make an atom of their own
pub run-other : (front : List Atom) (a : Atom) (face : Face) (c : ℕ) (cs : List ℕ) → same_face a.face face ≡ false
    → with_all_shown (front ++ a ∷ []) (shown_in face (c ∷ cs)) ≡ front ++ a ∷ [] ++ record { contents = c ∷ cs; face = face } ∷ []
run-other front a face c cs h =
    let s : ShownChar = record { char = c; face = face } in
    ap (λ r. with_all_shown r (shown_in face cs)) (with_shown-other front a s h)
    ∙ run-same (front ++ a ∷ []) (atom_of s) face cs (same_face-itself face)

-- there is no atom yet
pub run-first : (face : Face) (c : ℕ) (cs : List ℕ) → with_all_shown [] (shown_in face (c ∷ cs)) ≡ record { contents = c ∷ cs; face = face } ∷ []
run-first face c cs = run-same [] (atom_of (record { char = c; face = face })) face cs (same_face-itself face)

-- what `push_run` does, by the last atom that there was
pub pushed_run-first : (old new : List Atom) (face : Face) (cs : List ℕ) → old ≡ [] → new ≡ [] → (length cs == 0) ≡ false
    → with_all_shown old (shown_in face cs) ≡ new ++ record { contents = cs; face = face } ∷ []
pushed_run-first old new face [] e f h = cc
pushed_run-first old new face (c ∷ cs) e f h =
    ap (λ r. with_all_shown r (shown_in face (c ∷ cs))) e ∙ run-first face c cs ∙ ap (λ (r : List Atom). r ++ record { contents = c ∷ cs; face = face } ∷ []) (sym f)

pub pushed_run-same : (old front : List Atom) (a : Atom) (face : Face) (cs : List ℕ) → old ≡ front ++ a ∷ [] → same_face a.face face ≡ true
    → with_all_shown old (shown_in face cs) ≡ front ++ record { contents = a.contents ++ cs; face = a.face } ∷ []
pushed_run-same old front a face cs e h = ap (λ r. with_all_shown r (shown_in face cs)) e ∙ run-same front a face cs h

pub pushed_run-other : (old front : List Atom) (a : Atom) (face : Face) (cs : List ℕ) → old ≡ front ++ a ∷ [] → same_face a.face face ≡ false → (length cs == 0) ≡ false
    → with_all_shown old (shown_in face cs) ≡ front ++ a ∷ [] ++ record { contents = cs; face = face } ∷ []
pushed_run-other old front a face [] e h n = cc
pushed_run-other old front a face (c ∷ cs) e h n = ap (λ r. with_all_shown r (shown_in face (c ∷ cs))) e ∙ run-other front a face c cs h

-- more characters wait
pub grown-more : (done : List Atom) (face : Face) (waiting new more : List ℕ) → new ≡ waiting ++ more
    → with_all_shown done (shown_in face new) ≡ with_all_shown (with_all_shown done (shown_in face waiting)) (shown_in face more)
grown-more done face waiting new more h =
    ap (λ t. with_all_shown done (shown_in face t)) h
    ∙ ap (with_all_shown done) (map-append (λ (d : ℕ). let x : ShownChar = record { char = d; face = face } in x) waiting more)
    ∙ with_all_shown-append done (shown_in face waiting) (shown_in face more)

-- atoms with those that wait, and the face
abbrev pub grown : List Atom → Face → List ℕ → Grown
grown done face waiting = record { atoms = with_all_shown done (shown_in face waiting); face = face }

pub grown-pushed : (done : List Atom) (face : Face) (waiting new more : List ℕ) (old : Grown) → new ≡ waiting ++ more → grown done face waiting ≡ old
    → grown done face new ≡ grown_by old more
grown-pushed done face waiting new more old h e =
    ap (λ (t : List Atom). let r : Grown = record { atoms = t; face = face } in r) (grown-more done face waiting new more h)
    ∙ ap (λ (g : Grown). grown_by g more) e

abbrev with_face : Grown → Face → Grown
with_face old face = record { atoms = old.atoms; face = face }

-- the face is there already
pub faced-same : (done : List Atom) (own face : Face) (waiting : List ℕ) (old : Grown) → same_face own face ≡ true → grown done own waiting ≡ old → old ≡ with_face old face
faced-same done own face waiting old h e = ap (with_face old) (sym (ap (λ (g : Grown). g.face) e) ∙ equal_faces own face h)

-- spaces, digits and what stands behind them
pub number-grown : (old first second third last : Grown) (face : Face) (a b s all : List ℕ) → first ≡ record { atoms = old.atoms; face = face } → second ≡ grown_by first a → third ≡ grown_by second b → last ≡ grown_by third s
    → a ++ (b ++ s) ≡ all → last.atoms ≡ with_all_shown old.atoms (shown_in face all)
number-grown old first second third last face a b s all e1 e2 e3 e4 h =
    ap (λ (g : Grown). g.atoms) (e4 ∙ ap (λ (g : Grown). grown_by g s) (e3 ∙ ap (λ (g : Grown). grown_by g b) (e2 ∙ ap (λ (g : Grown). grown_by g a) e1)))
    ∙ sym (grown-more old.atoms face a (a ++ (b ++ s)) (b ++ s) refl ∙ grown-more (with_all_shown old.atoms (shown_in face a)) face b (b ++ s) s refl)
    ∙ ap (λ t. with_all_shown old.atoms (shown_in face t)) h

-- one more row of characters
pub row-more : {X : Type 0} (f : X → List ShownChar) (rows : List X) (k : ℕ) (r d : X) (old mid new : List Atom) (drawn : List ShownChar) → k < length rows → r ≡ get_or rows k d → drawn ≡ f r
    → mid ≡ with_all_shown old (flat_map f (take k rows)) → new ≡ with_all_shown mid drawn → new ≡ with_all_shown old (flat_map f (take (k + 1) rows))
row-more f rows k r d old mid new drawn h e g p q =
    q ∙ ap₂ (λ x y. with_all_shown x y) p (g ∙ ap f e)
    ∙ sym (with_all_shown-append old (flat_map f (take k rows)) (f (get_or rows k d)))
    ∙ ap (with_all_shown old) (sym (flat-more f (take k rows) (get_or rows k d)) ∙ ap (flat_map f) (sym (take_more rows k d h)))
  where
    flat-more : {X : Type 0} (f : X → List ShownChar) (xs : List X) (x : X) → flat_map f (xs ++ x ∷ []) ≡ flat_map f xs ++ f x
    flat-more f [] x = append-nil (f x)
    flat-more f (y ∷ ys) x = ap (λ t. f y ++ t) (flat-more f ys x) ∙ sym (append_assoc (f y) (flat_map f ys) (f x))

pub rows-more : (numbers : List LineNumbers) (k : ℕ) (d : LineNumbers) (f : Numbering → List ShownChar) (old mid new : List Atom) → k < length numbers
    → mid ≡ with_all_shown old (flat_map f (take k (map numbering numbers))) → new ≡ with_all_shown mid (f (numbering (get_or numbers k d)))
    → new ≡ with_all_shown old (flat_map f (take (k + 1) (map numbering numbers)))
rows-more numbers k d f old mid new h p q =
    row-more f (map numbering numbers) k (numbering (get_or numbers k d)) (numbering d) old mid new (f (numbering (get_or numbers k d))) (omega (arith, h, length-map numbers numbering))
    (sym (get_or-map numbering numbers k d (numbering d) h)) refl p q
