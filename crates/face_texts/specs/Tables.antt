-- Faces under names, each of which may lie over another one.
use Rattle.std.specs.Prelude.{ℕ, zero, suc, not, Bool, false, List, [], ◌∷◌, length, filter, find, if◌then◌else◌, Option, Some, None, option_map, is_some, unwrap_or, Result, Ok, Err}
use Rattle.std.specs.List.{list_any}
use Rattle.std.specs.Str.{bytes_eq, chars}
use Rattle.tables.specs.Tables.{put_where}
use Rattle.kak_faces.specs.declared.face.Face.{Face}
use Rattle.kak_faces.specs.Faces.{merged}
use Rattle.kak_faces.specs.Standard.{default_face}
use Rattle.face_texts.specs.declared.text.FaceText.{FaceText}
use Rattle.face_texts.specs.declared.rows.NamedFace.{NamedFace}
use Rattle.face_texts.specs.Texts.{face_on, face_text_of}

-- whether a row is that of a name
abbrev pub is_named : List ℕ → NamedFace → Bool
is_named name row = bytes_eq row.name name

-- the text that a name is set to
abbrev pub text_named : List NamedFace → List ℕ → Option FaceText
text_named rows name = option_map (λ r. r.text) (find (is_named name) rows)

-- what a base is set to
abbrev pub text_of_base : List NamedFace → Option (List ℕ) → Option FaceText
text_of_base rows None = None
text_of_base rows (Some name) = text_named rows name

-- a text behind others, if there is one
abbrev pub chain_on : (FaceText → List FaceText) → Option FaceText → List FaceText
chain_on further None = []
chain_on further (Some text) = further text

-- a text and those along the bases, as far as these are set, at most n behind the first
abbrev pub chain : ℕ → List NamedFace → FaceText → List FaceText
chain zero rows text = text ∷ []
chain (suc n) rows text = text ∷ chain_on (chain n rows) (text_of_base rows text.base)

-- the face of texts that lie one over another, the last lowest
abbrev pub face_of : List FaceText → Face
face_of [] = default_face
face_of (text ∷ texts) = merged (face_of texts) text.face

-- what a text is seen as
abbrev pub shown : List NamedFace → FaceText → Face
shown rows text = face_of (chain (length rows) rows text)

-- what a name is seen as, if it is set
abbrev pub face_named : List NamedFace → List ℕ → Option Face
face_named rows name = option_map (shown rows) (text_named rows name)

-- what a name is seen as: one that isn't set is the default face
abbrev pub seen_named : List NamedFace → List ℕ → Face
seen_named rows name = unwrap_or (face_named rows name) default_face

-- whether a text's base is a name
abbrev pub is_base : List ℕ → Option (List ℕ) → Bool
is_base name None = false
is_base name (Some base) = bytes_eq base name

abbrev pub is_based_on : List ℕ → FaceText → Bool
is_based_on name text = is_base name text.base

-- whether following bases from a text comes to a name
abbrev pub comes_back : List NamedFace → List ℕ → FaceText → Bool
comes_back rows name text = list_any (is_based_on name) (chain (length rows) rows text)

-- the row of a face
abbrev pub named_row : List ℕ → FaceText → NamedFace
named_row name text = record { name = name; text = text }

-- the table in which a name is set to a text, or else the name, where bases would come back to it
abbrev pub face_set_in : List ℕ → FaceText → List NamedFace → Result (List NamedFace) (List ℕ)
face_set_in name text rows =
    if comes_back rows name text then Err name else Ok (put_where (is_named name) (named_row name text) rows)

-- the table in which a name isn't set
abbrev pub face_unset_in : List ℕ → List NamedFace → List NamedFace
face_unset_in name rows = filter (λ row. not (is_named name row)) rows

-- the text that stands for a face that is set: it says nothing itself
abbrev pub based_on : List ℕ → FaceText
based_on name = face_on default_face (Some name)

-- the face of a word: a name that is set stands for its face, and any other word is read
abbrev pub word_text : List NamedFace → List ℕ → Result FaceText ℕ
word_text rows word = if is_some (text_named rows word) then Ok (based_on word) else face_text_of (chars word)
