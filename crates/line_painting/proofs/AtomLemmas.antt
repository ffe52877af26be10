-- How atoms grow at their end.
use Rattle.std.proofs.Common.{◌≡◌, Bool, true, false, List, [], ◌∷◌, ◌++◌, refl, sym, ap, ◌∙◌, append_assoc}
use Rattle.std.specs.Prelude.{if◌then◌else◌}
use Rattle.kak_faces.specs.Same.{same_face}
use Rattle.drawings.specs.declared.drawing.Atom.{Atom}
use Rattle.line_painting.specs.Atoms.{ShownChar, atom_of, atom_longer, with_shown, with_all_shown, atoms_of}

if-front : (t : Bool) (x : Atom) (a b : List Atom) → x ∷ (if t then a else b) ≡ (if t then x ∷ a else x ∷ b)
if-front true x a b = refl
if-front false x a b = refl

-- a character behind atoms of which the last is known
pub with_shown-last : (front : List Atom) (a : Atom) (s : ShownChar) → with_shown (front ++ a ∷ []) s
    ≡ (if same_face a.face s.face then front ++ atom_longer a s.char ∷ [] else front ++ a ∷ [] ++ atom_of s ∷ [])
with_shown-last [] a s = refl
with_shown-last (x ∷ []) a s = if-front (same_face a.face s.face) x (atom_longer a s.char ∷ []) (a ∷ atom_of s ∷ [])
with_shown-last (x ∷ y ∷ front) a s =
    ap (λ r. x ∷ r) (with_shown-last (y ∷ front) a s)
    ∙ if-front (same_face a.face s.face) x (y ∷ front ++ atom_longer a s.char ∷ []) (y ∷ front ++ a ∷ [] ++ atom_of s ∷ [])

-- the last atom has the face: it grows
pub with_shown-same : (front : List Atom) (a : Atom) (s : ShownChar) → same_face a.face s.face ≡ true → with_shown (front ++ a ∷ []) s ≡ front ++ atom_longer a s.char ∷ []
with_shown-same front a s e = with_shown-last front a s ∙ rw e refl

-- the last atom has another face: a new one begins
pub with_shown-other : (front : List Atom) (a : Atom) (s : ShownChar) → same_face a.face s.face ≡ false → with_shown (front ++ a ∷ []) s ≡ front ++ a ∷ [] ++ atom_of s ∷ []
with_shown-other front a s e = with_shown-last front a s ∙ rw e refl

-- characters one after another
pub with_all_shown-append : (atoms : List Atom) (a b : List ShownChar) → with_all_shown atoms (a ++ b) ≡ with_all_shown (with_all_shown atoms a) b
with_all_shown-append atoms [] b = refl
with_all_shown-append atoms (s ∷ a) b = with_all_shown-append (with_shown atoms s) a b

-- two steps of drawing
pub two_steps : (old mid new : List Atom) (a b all : List ShownChar) → mid ≡ with_all_shown old a → new ≡ with_all_shown mid b → all ≡ a ++ b → new ≡ with_all_shown old all
two_steps old mid new a b all e f g =
    f ∙ ap (λ m. with_all_shown m b) e ∙ sym (with_all_shown-append old a b) ∙ ap (with_all_shown old) (sym g)

-- three steps of drawing
pub three_steps : (one_done two_done new : List Atom) (a b c all : List ShownChar) → one_done ≡ with_all_shown [] a → two_done ≡ with_all_shown one_done b → new ≡ with_all_shown two_done c → all ≡ a ++ (b ++ c) → new ≡ atoms_of all
three_steps one_done two_done new a b c all e f g h =
    two_steps [] two_done new (a ++ b) c all (two_steps [] one_done two_done a b (a ++ b) e f refl) g (h ∙ sym (append_assoc a b c))
