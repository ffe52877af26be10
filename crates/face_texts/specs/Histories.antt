-- The tables that are made of the given one.
use Rattle.std.specs.Prelude.{ℕ, List, [], ◌∷◌, Result, Ok, Err}
use Rattle.face_texts.specs.declared.text.FaceText.{FaceText}
use Rattle.face_texts.specs.declared.rows.NamedFace.{NamedFace}
use Rattle.face_texts.specs.Tables.{face_set_in, face_unset_in}
use Rattle.face_texts.specs.Given.{given}

-- a name is set to a text, or unset
pub data FaceEdit : Type 0 where
  Sets : List ℕ → FaceText → FaceEdit
  Unsets : List ℕ → FaceEdit

-- a new table, or the old one where it is refused
abbrev pub unless_refused : List NamedFace → Result (List NamedFace) (List ℕ) → List NamedFace
unless_refused old (Ok new) = new
unless_refused old (Err name) = old

-- the table after an edit
abbrev pub face_edited : FaceEdit → List NamedFace → List NamedFace
face_edited (Sets name text) rows = unless_refused rows (face_set_in name text rows)
face_edited (Unsets name) rows = face_unset_in name rows

-- the table that edits make of the given one, the last edit first
abbrev pub faces_made : List FaceEdit → List NamedFace
faces_made [] = given
faces_made (edit ∷ edits) = face_edited edit (faces_made edits)
