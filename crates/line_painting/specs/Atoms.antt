-- Characters that are shown, each in its face, and how they make atoms.
use Rattle.std.specs.Prelude.{ℕ, if◌then◌else◌, List, [], ◌∷◌, ◌++◌, map}
use Rattle.kak_faces.specs.declared.face.Face.{Face}
use Rattle.kak_faces.specs.Same.{same_face}
use Rattle.drawings.specs.declared.drawing.Atom.{Atom}

-- a character in its face
pub record ShownChar : Type 0 where
  pub char : ℕ
  pub face : Face

-- characters in one face
abbrev pub shown_in : Face → List ℕ → List ShownChar
shown_in face cs = map (λ c. record { char = c; face = face }) cs

-- the atom of one character
abbrev pub atom_of : ShownChar → Atom
atom_of s = record { contents = s.char ∷ []; face = s.face }

-- an atom with one more character
abbrev pub atom_longer : Atom → ℕ → Atom
atom_longer a c = record { contents = a.contents ++ c ∷ []; face = a.face }

-- atoms with one more character behind them: it joins the last atom where that has its face
abbrev pub with_shown : List Atom → ShownChar → List Atom
with_shown [] s = atom_of s ∷ []
with_shown (a ∷ []) s = if same_face a.face s.face then atom_longer a s.char ∷ [] else a ∷ atom_of s ∷ []
with_shown (a ∷ b ∷ atoms) s = a ∷ with_shown (b ∷ atoms) s

-- atoms with more characters behind them
abbrev pub with_all_shown : List Atom → List ShownChar → List Atom
with_all_shown atoms [] = atoms
with_all_shown atoms (s ∷ ss) = with_all_shown (with_shown atoms s) ss

-- characters as atoms: the maximal runs of one face
abbrev pub atoms_of : List ShownChar → List Atom
atoms_of shown = with_all_shown [] shown
