-- What the words of highlighters are read as, and how one is named that was given no name.
use Rattle.std.specs.Prelude.{ℕ, ◌-◌, ◌==◌, ◌&&◌, not, Bool, if◌then◌else◌, slice_index, length, List, [], ◌∷◌, ◌++◌, drop, flat_map, codes, encode_utf8_all, None, Some, Ok, Err}
use Rattle.std.specs.declared.option.Option.{Option}
use Rattle.std.specs.declared.result.Result.{Result}
use Rattle.std.specs.Str.{chars}
use Rattle.command_forms.specs.Numbers.{whole_number}
use Rattle.command_forms.specs.Parting.{Parts, parted}
use Rattle.command_forms.specs.Results.{then_as, then_with}
use Rattle.face_texts.specs.declared.text.FaceText.{FaceText}
use Rattle.face_texts.specs.declared.rows.NamedFace.{NamedFace}
use Rattle.face_texts.specs.Tables.{word_text}
use Rattle.highlight_paint.specs.declared.painter.GroupFace.{GroupFace}
use Rattle.kak_world.specs.declared.ask.EditError.{EditError}
use Rattle.kak_world.specs.declared.ask.EditError.TheVariants.{Command as OfCommand}
use Rattle.kak_world.specs.declared.command_error.CommandError.TheVariants.{BadFace, BadValue}

-- the face of a word, or at which character none can be read
abbrev pub face_told : Result FaceText ℕ → Result FaceText EditError
face_told (Ok text) = Ok text
face_told (Err at) = Err (OfCommand (BadFace at))

-- the number of a word, if it is one
abbrev pub number_told : Option ℕ → Result ℕ EditError
number_told (Some n) = Ok n
number_told None = Err (OfCommand BadValue)

-- a number in decimal, and the face that stands behind the first `:` (58); the number is judged first
abbrev pub group_in : List NamedFace → Parts → Result GroupFace EditError
group_in faces p =
    then_with (λ n. then_as (λ face. record { group = n; face = face }) (face_told (word_text faces p.behind))) (number_told (whole_number p.before))

abbrev pub group_parted : List NamedFace → Option Parts → Result GroupFace EditError
group_parted faces (Some p) = group_in faces p
group_parted faces None = Err (OfCommand BadValue)

-- the group of a word, and those of words, the first that is none from the left being told
abbrev pub group_told : List NamedFace → List ℕ → Result GroupFace EditError
group_told faces word = group_parted faces (parted 58 word)

abbrev pub groups_told : List NamedFace → List (List ℕ) → Result (List GroupFace) EditError
groups_told faces [] = Ok []
groups_told faces (w ∷ ws) = then_with (λ g. then_as (λ gs. g ∷ gs) (groups_told faces ws)) (group_told faces w)

-- a character as it stands in a name that was made: `/` (47) is written in full
abbrev pub in_name : ℕ → List ℕ
in_name c = if c == 47 then codes "<slash>" else c ∷ []

-- a word behind a `_` (95), as it stands there
abbrev pub behind_bar : List ℕ → List ℕ
behind_bar word = 95 ∷ flat_map in_name (chars word)

-- the name that words make: they are joined by `_`
abbrev pub made_name : List (List ℕ) → List ℕ
made_name ws = drop 1 (flat_map behind_bar ws)

-- whether a path ends with `/`, so that its name is missing
abbrev pub lacks_name : List ℕ → Bool
lacks_name path = not (length path == 0) && slice_index path (length path - 1) == 47

-- a path with its name, which is made of words where it is missing
abbrev pub full_path : List ℕ → List (List ℕ) → List ℕ
full_path path words = if lacks_name path then path ++ encode_utf8_all (made_name words) else path
