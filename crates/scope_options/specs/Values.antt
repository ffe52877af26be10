-- The values of options.
use Rattle.std.specs.Prelude.{ℕ, ℤ, pos, negsuc, ◌+ℤ◌, ◌^◌, ◌==◌, ◌&&◌, ◌||◌, not, Bool, true, false, List, [], ◌∷◌, ◌++◌, nat_le, nat_lt, if◌then◌else◌, Option, Some, None, option_map, slice_index, codes}
use Rattle.std.specs.List.{list_all}
use Rattle.std.specs.Char.{digit_value}
use Rattle.std.specs.Str.{bytes_eq}
use Rattle.std.specs.Str.Parse.{without_leading_sign, signed_digits_value}
use Rattle.scope_options.specs.declared.value.OptionType.{OptionType}
use Rattle.scope_options.specs.declared.value.OptionType.TheVariants as kind
use Rattle.scope_options.specs.declared.value.OptionValue.{OptionValue}
use Rattle.scope_options.specs.declared.value.OptionValue.TheVariants as value

-- the type of a value
abbrev pub kind_of : OptionValue → OptionType
kind_of (value.Int n) = kind.Int
kind_of (value.Bool b) = kind.Bool
kind_of (value.Str text) = kind.Str
kind_of (value.StrList list) = kind.StrList

-- whether two types are one
abbrev pub is_same_type : OptionType → OptionType → Bool
is_same_type kind.Int kind.Int = true
is_same_type kind.Bool kind.Bool = true
is_same_type kind.Str kind.Str = true
is_same_type kind.StrList kind.StrList = true
is_same_type _ _ = false

-- whether a number has 32 bits with its sign
abbrev pub is_i32 : ℤ → Bool
is_i32 (pos n) = nat_lt n (2 ^ 31)
is_i32 (negsuc n) = nat_lt n (2 ^ 31)

-- whether a text is one decimal digit or more
abbrev pub is_numeral : List ℕ → Bool
is_numeral [] = false
is_numeral (d ∷ ds) = list_all (λ c. nat_lt (digit_value c) 10) (d ∷ ds)

-- the number that a word is: decimal digits, behind a `-` (45) if it is negative, and no `+` (43)
abbrev pub int_of : List ℕ → Option ℤ
int_of word =
    if not (slice_index word 0 == 43) && (is_numeral (without_leading_sign word) && is_i32 (signed_digits_value 10 word))
    then Some (signed_digits_value 10 word) else None

-- the truth value that a word is
abbrev pub bool_of : List ℕ → Option Bool
bool_of word =
    if bytes_eq word (codes "true") then Some true else (if bytes_eq word (codes "false") then Some false else None)

-- the value of a type that one word is
abbrev pub read_word : OptionType → List ℕ → Option OptionValue
read_word kind.Int word = option_map value.Int (int_of word)
read_word kind.Bool word = option_map value.Bool (bool_of word)
read_word kind.Str word = Some (value.Str word)
read_word kind.StrList word = None

-- the value of a type that words are: any number of them are a list, and one is any other value
abbrev pub read_value : OptionType → List (List ℕ) → Option OptionValue
read_value kind.StrList words = Some (value.StrList words)
read_value other [] = None
read_value other (word ∷ []) = read_word other word
read_value other (word ∷ more ∷ words) = None

-- a value with another added: the sum, if it has 32 bits, or one behind the other; there is none of truth values
abbrev pub added : OptionValue → OptionValue → Option OptionValue
added (value.Int a) (value.Int b) = if is_i32 (a +ℤ b) then Some (value.Int (a +ℤ b)) else None
added (value.Str a) (value.Str b) = Some (value.Str (a ++ b))
added (value.StrList a) (value.StrList b) = Some (value.StrList (a ++ b))
added _ _ = None

-- whether a number is none below one and none above another
abbrev pub is_between : ℕ → ℕ → ℤ → Bool
is_between low high (pos n) = nat_le low n && nat_le n high
is_between low high (negsuc n) = false

-- the numbers that the given options take: tabstop 1 to 64, indentwidth 0 to 64
abbrev pub is_within_int : List ℕ → ℤ → Bool
is_within_int name n =
    if bytes_eq name (codes "tabstop") then is_between 1 64 n else
    (if bytes_eq name (codes "indentwidth") then is_between 0 64 n else true)

-- the texts that the given options take
abbrev pub is_within_text : List ℕ → List ℕ → Bool
is_within_text name text =
    if bytes_eq name (codes "eolformat") then bytes_eq text (codes "lf") || bytes_eq text (codes "crlf") else
    (if bytes_eq name (codes "BOM") then bytes_eq text (codes "none") || bytes_eq text (codes "utf8") else true)

-- whether an option takes a value of its type
abbrev pub is_within : List ℕ → OptionValue → Bool
is_within name (value.Int n) = is_within_int name n
is_within name (value.Bool b) = true
is_within name (value.Str text) = is_within_text name text
is_within name (value.StrList list) = true
