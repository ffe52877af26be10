-- What is found after a name was set or unset, and what a palette has.
use Rattle.std.specs.Prelude.{◌≡◌, ℕ, ◌+◌, false, List, length, Some, None, Ok}
use Rattle.std.specs.Str.{bytes_eq}
use Rattle.kak_faces.specs.declared.standard.StandardFace.{StandardFace}
use Rattle.kak_faces.specs.Standard.{standard_face}
use Rattle.face_texts.specs.declared.text.FaceText.{FaceText}
use Rattle.face_texts.specs.declared.rows.NamedFace.{NamedFace}
use Rattle.face_texts.specs.Tables.{text_named, chain, shown, seen_named, face_set_in, face_unset_in, based_on}
use Rattle.face_texts.specs.Given.{standard_name, given}
use Rattle.face_texts.specs.Histories.{FaceEdit, faces_made}
use Rattle.face_texts.specs.Palettes.{palette_of, palette_face}

-- the laws of names
pub record NameLaws : Type 0 where
  -- a name that was set has its text
  pub set_name : (name : List ℕ) (text : FaceText) (rows new : List NamedFace) → face_set_in name text rows ≡ Ok new → text_named new name ≡ Some text
  -- other names have what they had
  pub other_set : (name other : List ℕ) (text : FaceText) (rows new : List NamedFace) → face_set_in name text rows ≡ Ok new → bytes_eq name other ≡ false → text_named new other ≡ text_named rows other
  -- a name that was unset has nothing
  pub unset_name : (name : List ℕ) (rows : List NamedFace) → text_named (face_unset_in name rows) name ≡ None
  -- other names have what they had
  pub other_unset : (name other : List ℕ) (rows : List NamedFace) → bytes_eq name other ≡ false → text_named (face_unset_in name rows) other ≡ text_named rows other

-- the laws of palettes
pub record PaletteLaws : Type 0 where
  -- each name has what it is seen as
  pub each : (rows : List NamedFace) (face : StandardFace) → palette_face (palette_of rows) face ≡ seen_named rows (standard_name face)
  -- at the start that is the face that it is set to
  pub at_start : (face : StandardFace) → palette_face (palette_of given) face ≡ standard_face face

-- the laws of bases, in each table that is made of the given one
pub record BaseLaws : Type 0 where
  -- bases end within as many steps as there are rows: more steps lead no further
  pub chains_end : (edits : List FaceEdit) (text : FaceText) (more : ℕ) → chain (length (faces_made edits) + more) (faces_made edits) text ≡ chain (length (faces_made edits)) (faces_made edits) text
  -- a word that is a set name is seen as that name is
  pub word_is_face : (edits : List FaceEdit) (name : List ℕ) → shown (faces_made edits) (based_on name) ≡ seen_named (faces_made edits) name
