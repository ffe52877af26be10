-- JSON in compact text, as lists of bytes.
use Rattle.std.specs.Prelude.{◌≡◌, ℕ, ◌<◌, ◌/◌, ◌%◌, ◌==◌, ◌&&◌, List, [], ◌∷◌, ◌++◌, length, slice_index, Bool, true, not, nat_lt, nat_le, if◌then◌else◌, codes, encode_utf8}
use Rattle.std.specs.Char.{digit_char}

-- a character inside a JSON string: the quote, the backslash and the control characters are escaped
abbrev pub escaped : ℕ → List ℕ
escaped c =
    if c == 34 then codes "\\\"" else (if c == 92 then codes "\\\\" else (if c == 8 then codes "\\b" else (if c == 9 then codes "\\t" else
    (if c == 10 then codes "\\n" else (if c == 12 then codes "\\f" else (if c == 13 then codes "\\r" else
    (if nat_lt c 32 then codes "\\u00" ++ digit_char (c / 16) ∷ digit_char (c % 16) ∷ [] else (if nat_lt c 128 then c ∷ [] else encode_utf8 c))))))))

-- the characters of a text inside a JSON string
abbrev pub all_escaped : List ℕ → List ℕ
all_escaped [] = []
all_escaped (c ∷ cs) = escaped c ++ all_escaped cs

-- whether a character stands for itself inside a JSON string, as one byte
abbrev pub is_plain : ℕ → Bool
is_plain c = nat_le 32 c && nat_le c 126 && not (c == 34) && not (c == 92)

-- characters that stand for themselves
abbrev pub ArePlain : List ℕ → Type 0
ArePlain cs = (n : ℕ) → n < length cs → is_plain (slice_index cs n) ≡ true

-- a JSON string of any characters
abbrev pub string_text : List ℕ → List ℕ
string_text cs = 34 ∷ all_escaped cs ++ 34 ∷ []

-- a JSON string of bytes of which none is escaped
abbrev pub plain_string : List ℕ → List ℕ
plain_string bytes = 34 ∷ bytes ++ 34 ∷ []

-- each part behind a comma
abbrev pub after_commas : List (List ℕ) → List ℕ
after_commas [] = []
after_commas (part ∷ parts) = 44 ∷ part ++ after_commas parts

-- the parts with a comma between each two
abbrev pub separated : List (List ℕ) → List ℕ
separated [] = []
separated (part ∷ parts) = part ++ after_commas parts

-- a JSON array
abbrev pub array_text : List (List ℕ) → List ℕ
array_text parts = 91 ∷ separated parts ++ 93 ∷ []

-- a member of a JSON object
abbrev pub member_text : List ℕ → List ℕ → List ℕ
member_text name value = plain_string name ++ 58 ∷ value

-- a JSON object
abbrev pub object_text : List (List ℕ) → List ℕ
object_text members = 123 ∷ separated members ++ 125 ∷ []

-- what stands before a part: a comma, unless it is the first
abbrev pub comma_unless : Bool → List ℕ
comma_unless first = if first then [] else 44 ∷ []
