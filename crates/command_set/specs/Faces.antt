-- What commands do to faces.
use Rattle.std.specs.Prelude.{ℕ, is_some, if◌then◌else◌, List, codes, Ok, Err}
use Rattle.std.specs.declared.result.Result.{Result}
use Rattle.std.specs.Str.{bytes_eq}
use Rattle.face_texts.specs.declared.text.FaceText.{FaceText}
use Rattle.face_texts.specs.declared.text.FaceError.{FaceError}
use Rattle.face_texts.specs.declared.text.FaceError.TheVariants as faces
use Rattle.face_texts.specs.declared.rows.NamedFace.{NamedFace}
use Rattle.face_texts.specs.Tables.{text_named, face_set_in, face_unset_in, word_text}
use Rattle.kak_world.specs.declared.ask.EditError.{EditError}
use Rattle.kak_world.specs.declared.ask.EditError.TheVariants.{Command as OfCommand, NoMemory}
use Rattle.kak_world.specs.declared.command_error.CommandError.TheVariants.{NoSuchScope, NoSuchFace, FaceCycle, BadFace}
use Rattle.kak_world.specs.Flat.{Flat, faces_of, with_faces}
use Rattle.kak_world.specs.Rows.{RowEnd, does}
use Rattle.command_set.specs.Buffers.{refuses}

-- by what a client is told why a word is no face, or a face isn't set
abbrev pub face_refusal : FaceError → EditError
face_refusal (faces.BadFace at) = OfCommand (BadFace at)
face_refusal (faces.Cycle name) = OfCommand (FaceCycle name)
face_refusal faces.NoMemory = NoMemory

-- faces are set otherwise, or bases would come back to a name
abbrev pub faces_row : Result (List NamedFace) (List ℕ) → Flat → RowEnd
faces_row (Ok rows) flat = does (with_faces rows flat)
faces_row (Err name) flat = refuses (FaceCycle name) flat

-- a name is set to what was read, or there is none
abbrev pub face_read_row : List ℕ → Result FaceText ℕ → Flat → RowEnd
face_read_row name (Ok text) flat = faces_row (face_set_in name text (faces_of flat)) flat
face_read_row name (Err at) flat = refuses (BadFace at) flat

-- a row at the scope of a word, which is to be `global`
abbrev pub at_global : List ℕ → RowEnd → Flat → RowEnd
at_global scope row flat = if bytes_eq scope (codes "global") then row else refuses (NoSuchScope scope) flat

-- a name is set to the face of a word: there is to be the scope, and then the face
abbrev pub set_face_row : List ℕ → List ℕ → List ℕ → Flat → RowEnd
set_face_row scope name word flat = at_global scope (face_read_row name (word_text (faces_of flat) word) flat) flat

-- a name isn't set any more
abbrev pub unset_named : List ℕ → Flat → RowEnd
unset_named name flat =
    if is_some (text_named (faces_of flat) name) then does (with_faces (face_unset_in name (faces_of flat)) flat) else refuses (NoSuchFace name) flat

abbrev pub unset_face_row : List ℕ → List ℕ → Flat → RowEnd
unset_face_row scope name flat = at_global scope (unset_named name flat) flat
