-- What face a text is: colours, then `+` (43) and letters of attributes, then `@` (64) and the name of the face below it.
use Rattle.std.specs.Prelude.{ℕ, ◌+◌, ◌==◌, min, nat_lt, List, length, take, drop, slice_range, if◌then◌else◌, Option, Some, None, Result, Ok, Err, encode_utf8_all}
use Rattle.kak_faces.specs.declared.colour.Attributes.{Attributes}
use Rattle.kak_faces.specs.declared.face.Face.{Face}
use Rattle.kak_faces.specs.Standard.{no_attributes}
use Rattle.face_texts.specs.declared.colours.Colours.{Colours}
use Rattle.face_texts.specs.declared.text.FaceText.{FaceText}
use Rattle.face_texts.specs.Results.{then_with, then_as}
use Rattle.face_texts.specs.Colours.{up_to, colours_of}
use Rattle.face_texts.specs.Letters.{attributes_at}

-- the colours stand before the first `+` or `@`
abbrev pub colour_part : List ℕ → List ℕ
colour_part text = take (min (up_to 43 text) (up_to 64 text)) text

-- the attributes of a text, where a `+` stands before the first `@`
unfoldable pub attributes_of : List ℕ → Result Attributes ℕ
attributes_of text =
    if nat_lt (up_to 43 text) (up_to 64 text) then attributes_at (up_to 43 text + 1) (slice_range text (up_to 43 text + 1) (up_to 64 text))
    else Ok no_attributes

-- a face of colours and attributes
abbrev pub face_with : Colours → Attributes → Face
face_with colours attributes = record { fg = colours.fg; bg = colours.bg; underline = colours.underline; attributes = attributes }

-- the face that a text says itself
unfoldable pub own_face : List ℕ → Result Face ℕ
own_face text = then_with (λ colours. then_as (face_with colours) (attributes_of text)) (colours_of (colour_part text))

-- the base of a text, in UTF-8: all that stands behind the first `@`, and no less than a character
unfoldable pub base_of : List ℕ → Result (Option (List ℕ)) ℕ
base_of text =
    if up_to 64 text == length text then Ok None else
    (if up_to 64 text + 1 == length text then Err (length text) else Ok (Some (encode_utf8_all (drop (up_to 64 text + 1) text))))

-- a face over a base
abbrev pub face_on : Face → Option (List ℕ) → FaceText
face_on face base = record { face = face; base = base }

-- the face of a text's characters, or the place of the first that has no reading
unfoldable pub face_text_of : List ℕ → Result FaceText ℕ
face_text_of text = then_with (λ face. then_as (face_on face) (base_of text)) (own_face text)
