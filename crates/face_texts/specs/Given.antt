-- The faces that are set from the start.
use Rattle.std.specs.Prelude.{ℕ, List, [], ◌∷◌, map, None, codes}
use Rattle.kak_faces.specs.declared.standard.StandardFace.{StandardFace}
use Rattle.kak_faces.specs.declared.standard.StandardFace.TheVariants as name
use Rattle.kak_faces.specs.Standard.{standard_face}
use Rattle.face_texts.specs.declared.rows.NamedFace.{NamedFace}
use Rattle.face_texts.specs.Texts.{face_on}
use Rattle.face_texts.specs.Tables.{named_row}

-- the name of a given face
abbrev pub standard_name : StandardFace → List ℕ
standard_name name.Default = codes "Default"
standard_name name.BufferPadding = codes "BufferPadding"
standard_name name.PrimarySelection = codes "PrimarySelection"
standard_name name.SecondarySelection = codes "SecondarySelection"
standard_name name.PrimaryCursor = codes "PrimaryCursor"
standard_name name.SecondaryCursor = codes "SecondaryCursor"
standard_name name.PrimaryCursorEol = codes "PrimaryCursorEol"
standard_name name.SecondaryCursorEol = codes "SecondaryCursorEol"
standard_name name.StatusLine = codes "StatusLine"
standard_name name.StatusCursor = codes "StatusCursor"
standard_name name.Prompt = codes "Prompt"
standard_name name.Error = codes "Error"
standard_name name.Information = codes "Information"
standard_name name.LineNumbers = codes "LineNumbers"
standard_name name.LineNumberCursor = codes "LineNumberCursor"
standard_name name.Whitespace = codes "Whitespace"

-- all of them
abbrev pub all_standard : List StandardFace
all_standard =
    name.Default ∷ name.BufferPadding ∷ name.PrimarySelection ∷ name.SecondarySelection ∷ name.PrimaryCursor ∷ name.SecondaryCursor
    ∷ name.PrimaryCursorEol ∷ name.SecondaryCursorEol ∷ name.StatusLine ∷ name.StatusCursor ∷ name.Prompt ∷ name.Error
    ∷ name.Information ∷ name.LineNumbers ∷ name.LineNumberCursor ∷ name.Whitespace ∷ []

-- the row of a given face
abbrev pub standard_row : StandardFace → NamedFace
standard_row face = named_row (standard_name face) (face_on (standard_face face) None)

-- the table at the start
abbrev pub given : List NamedFace
given = map standard_row all_standard
