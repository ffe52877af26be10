-- The colours of a face text. Places are numbers of characters from 0.
use Rattle.std.specs.Prelude.{ℕ, ◌+◌, ◌*◌, ◌==◌, ◌&&◌, Bool, false, nat_lt, List, [], ◌∷◌, length, take, drop, slice_index, find, if◌then◌else◌, Option, Some, None, option_map, ok_or, Result, Ok, Err, codes}
use Rattle.std.specs.Option.{option_or}
use Rattle.std.specs.Char.{digit_value}
use Rattle.std.specs.Str.{bytes_eq}
use Rattle.tables.specs.Tables.{place_where}
use Rattle.kak_faces.specs.declared.colour.NamedColour.{NamedColour}
use Rattle.kak_faces.specs.declared.colour.NamedColour.TheVariants as named
use Rattle.kak_faces.specs.declared.colour.Colour.{Colour}
use Rattle.kak_faces.specs.declared.colour.Colour.TheVariants.{Named, Rgb}
use Rattle.kak_faces.specs.Colours.{colour_name, default_colour}
use Rattle.face_texts.specs.declared.colours.Colours.{Colours}
use Rattle.face_texts.specs.Results.{then_with}

-- all colours that have a name
abbrev pub all_colours : List NamedColour
all_colours =
    named.Default ∷ named.Black ∷ named.Red ∷ named.Green ∷ named.Yellow ∷ named.Blue ∷ named.Magenta ∷ named.Cyan ∷ named.White
    ∷ named.BrightBlack ∷ named.BrightRed ∷ named.BrightGreen ∷ named.BrightYellow ∷ named.BrightBlue ∷ named.BrightMagenta
    ∷ named.BrightCyan ∷ named.BrightWhite ∷ []

-- whether a word is a colour's name
abbrev pub is_name_of : List ℕ → NamedColour → Bool
is_name_of word name = bytes_eq word (colour_name name)

-- the number of two hexadecimal digits, with letters of either case
abbrev pub hex_pair : ℕ → ℕ → Option ℕ
hex_pair high low =
    if nat_lt (digit_value high) 16 && nat_lt (digit_value low) 16 then Some (16 * digit_value high + digit_value low) else None

-- the colour of three amounts, where there are all of them
abbrev pub mixed : Option ℕ → Option ℕ → Option ℕ → Option Colour
mixed (Some red) (Some green) (Some blue) = Some (Rgb red green blue)
mixed _ _ _ = None

-- the colour of `rgb:` and six hexadecimal digits
abbrev pub rgb_of : List ℕ → Option Colour
rgb_of word =
    if length word == 10 && bytes_eq (take 4 word) (codes "rgb:")
    then mixed (hex_pair (slice_index word 4) (slice_index word 5)) (hex_pair (slice_index word 6) (slice_index word 7))
    (hex_pair (slice_index word 8) (slice_index word 9))
    else None

-- the colour that a word is
unfoldable pub word_colour : List ℕ → Option Colour
word_colour word = option_or (option_map Named (find (is_name_of word) all_colours)) (rgb_of word)

-- the same where the word may be missing, which is the default colour, unless it is needed
abbrev pub colour_of : Bool → List ℕ → Option Colour
colour_of needed word = if length word == 0 then (if needed then None else Some default_colour) else word_colour word

-- the colour of a word at a place, or else that place
abbrev pub colour_at : Bool → ℕ → List ℕ → Result Colour ℕ
colour_at needed at word = ok_or (colour_of needed word) at

-- how many characters stand before the first that is a given one: all where none is
abbrev pub up_to : ℕ → List ℕ → ℕ
up_to mark text = place_where (λ c. c == mark) text

-- the word before the first comma (44), and what stands behind the comma
abbrev pub word_before : List ℕ → List ℕ
word_before text = take (up_to 44 text) text

abbrev pub behind_comma : List ℕ → List ℕ
behind_comma text = drop (up_to 44 text + 1) text

-- whether no comma is there
abbrev pub is_last : List ℕ → Bool
is_last text = up_to 44 text == length text

-- three colours
abbrev pub colours : Colour → Colour → Colour → Colours
colours fg bg underline = record { fg = fg; bg = bg; underline = underline }

-- the colours of a text from a place on, where the first two are given: behind the third no comma may stand. The word
-- behind the last comma is needed
unfoldable pub with_underline : Colour → Colour → ℕ → List ℕ → Result Colours ℕ
with_underline fg bg at text =
    then_with (λ underline. if is_last text then Ok (colours fg bg underline) else Err (at + up_to 44 text))
    (colour_at (is_last text) at (word_before text))

-- the colours of a text from a place on, where the first is given
unfoldable pub with_ground : Colour → ℕ → List ℕ → Result Colours ℕ
with_ground fg at text =
    then_with (λ bg. if is_last text then Ok (colours fg bg default_colour) else with_underline fg bg (at + up_to 44 text + 1) (behind_comma text))
    (colour_at (is_last text) at (word_before text))

-- the colours of a text: up to three words with commas between them
unfoldable pub colours_of : List ℕ → Result Colours ℕ
colours_of text =
    then_with (λ fg. if is_last text then Ok (colours fg default_colour default_colour) else with_ground fg (up_to 44 text + 1) (behind_comma text))
    (colour_at false 0 (word_before text))
