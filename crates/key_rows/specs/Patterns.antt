-- The patterns that rows ask for. Register `/` (47) holds the text of the one that was looked for last.
use Rattle.std.specs.Prelude.{ℕ, ◌+◌, ◌-◌, Bool, ◌==◌, not, ◌&&◌, nat_lt, if◌then◌else◌, List, [], ◌∷◌, ◌++◌, length, flat_map, slice_index_or, encode_utf8_all, codes}
use Rattle.std.specs.Str.{chars}
use Rattle.std.specs.List.{list_any}
use Rattle.list_model.specs.Ranges.{Range}
use Rattle.kak_text.specs.Classes.{class_of, is_same}
use Rattle.kak_text.specs.declared.classes.Class.TheVariants.{Word}
use Rattle.selection_set.specs.Held.{main_of}
use Rattle.edit_ops.specs.Reading.{text_of_range}
use Rattle.kak_registers.specs.Contents.{strings_of}
use Rattle.kak_world.specs.declared.ask.Ask.TheVariants.{Make}
use Rattle.kak_world.specs.declared.purpose.Use.{Use}
use Rattle.kak_world.specs.declared.purpose.Wanted.TheVariants.{Selects}
use Rattle.kak_world.specs.Flat.{Flat, text_of, sels_of, registers_of}
use Rattle.kak_world.specs.Registers.{set_row}
use Rattle.kak_world.specs.Rows.{RowEnd, Asks}
use Rattle.key_rows.specs.declared.patterns.Bounds.{Bounds}
use Rattle.key_rows.specs.declared.patterns.Bounds.TheVariants.{Anywhere, AtWordEnds}

-- the last of some strings; of none the empty one
abbrev pub last_string : List (List ℕ) → List ℕ
last_string strings = slice_index_or strings (length strings - 1) []

-- the text of the pattern that was looked for last
abbrev pub last_pattern : Flat → List ℕ
last_pattern flat = chars (last_string (strings_of 47 (registers_of flat)))

-- the pattern of a text is asked for, and a use of it
abbrev pub asks_for : List ℕ → Use → Flat → RowEnd
asks_for pattern wanted flat = record { world = flat; row = Asks (Make (record { pattern = pattern; then = Selects wanted })) }

-- the pattern that was looked for last is asked for
abbrev pub asks_for_last : Use → Flat → RowEnd
asks_for_last wanted flat = asks_for (last_pattern flat) wanted flat

-- the text of a pattern becomes that of the one looked for last
abbrev pub pattern_remembered : List ℕ → Flat → RowEnd
pattern_remembered pattern flat = set_row 47 (encode_utf8_all pattern ∷ []) flat

-- whether a character stands for something else than itself in a pattern
abbrev pub is_special : ℕ → Bool
is_special c = list_any (λ s. c == s) (codes "\\.+*?()|[]{}^$#&-~")

-- a character as a pattern: with a backslash (92) where it is special
abbrev pub escaped_one : ℕ → List ℕ
escaped_one c = if is_special c then 92 ∷ c ∷ [] else c ∷ []

-- characters as a pattern that matches just these
abbrev pub escaped_pattern : List ℕ → List ℕ
escaped_pattern cs = flat_map escaped_one cs

-- whether a word character stands at an offset; beyond the text stands none
abbrev pub is_word_at : List ℕ → ℕ → Bool
is_word_at text o = is_same (class_of (slice_index_or text o 10)) Word

-- whether a word begins at an offset, and whether one ends there
abbrev pub begins_word : List ℕ → ℕ → Bool
begins_word text o = is_word_at text o && not (nat_lt 0 o && is_word_at text (o - 1))

abbrev pub ends_word : List ℕ → ℕ → Bool
ends_word text o = is_word_at text o && not (is_word_at text (o + 1))

-- what matches nothing but the end of a word, if it is wanted
abbrev pub word_end : Bool → List ℕ
word_end wanted = if wanted then codes "\\b" else []

-- the text of a selection as a pattern: anywhere, or only where words end as they do around the selection
abbrev pub pattern_of : Bounds → List ℕ → Range → List ℕ
pattern_of Anywhere text r = escaped_pattern (text_of_range text r)
pattern_of AtWordEnds text r = word_end (begins_word text r.low) ++ (escaped_pattern (text_of_range text r) ++ word_end (ends_word text r.high))

-- the text of the main selection becomes the pattern looked for last
abbrev pub main_remembered : Bounds → ℕ → Flat → RowEnd
main_remembered bounds who flat = pattern_remembered (pattern_of bounds (text_of who flat) (main_of (sels_of who flat))) flat
