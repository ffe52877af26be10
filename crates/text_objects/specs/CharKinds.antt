-- The kinds of characters that runs are made of.
use Rattle.std.specs.Prelude.{ℕ, Bool}
use Rattle.text_objects.specs.declared.runs.CharKind.{CharKind}
use Rattle.text_objects.specs.declared.runs.CharKind.TheVariants.{InWord, Blank, Gap, Digit}
use Rattle.text_objects.specs.RunObjects.{is_in_word_kind, is_blank, is_gap, is_digit}

-- whether a character is of a kind
abbrev pub is_char_of : CharKind → ℕ → Bool
is_char_of (InWord big) c = is_in_word_kind big c
is_char_of Blank c = is_blank c
is_char_of Gap c = is_gap c
is_char_of Digit c = is_digit c
