-- The objects that are runs of characters: words, blanks and numbers. Each is by its first and its last offset, and there
-- is none where the cursor's character isn't in such a run.
use Rattle.std.specs.Prelude.{ℕ, ◌+◌, ◌-◌, ◌==◌, nat_lt, nat_le, Bool, ◌&&◌, ◌||◌, if◌then◌else◌, List, slice_index, option_map}
use Rattle.std.specs.declared.option.Option.{Option}
use Rattle.kak_text.specs.declared.classes.Class.TheVariants.{Line, Blank, Word}
use Rattle.kak_text.specs.Classes.{class_of, is_same}
use Rattle.motion_keys.specs.Words.{Ends, ends, word_kind, class_for}
use Rattle.text_objects.specs.Runs.{chars_end, char_run}

-- whether words are made of a character, or big words, for which marks count too
abbrev pub is_in_word_kind : Bool → ℕ → Bool
is_in_word_kind big c = is_same (class_for (word_kind big) c) Word

-- whether a character is a blank
abbrev pub is_blank : ℕ → Bool
is_blank c = is_same (class_of c) Blank

-- whether a character is a blank or a newline
abbrev pub is_gap : ℕ → Bool
is_gap c = is_same (class_of c) Blank || is_same (class_of c) Line

-- whether a character is one of the digits from 0 (48) to 9 (57)
abbrev pub is_digit : ℕ → Bool
is_digit c = nat_le 48 c && nat_le c 57

-- with the blanks right behind it
abbrev pub with_blanks : List ℕ → Ends → Ends
with_blanks text e = ends e.anchor (chars_end is_blank text (e.cursor + 1) - 1)

-- the offset of the minus sign (45) right before an offset, or that offset where there is none
abbrev pub sign_before : List ℕ → ℕ → ℕ
sign_before text o = if nat_lt 0 o && (slice_index text (o - 1) == 45) then o - 1 else o

-- with the minus sign right before it, where there is one
abbrev pub with_sign : List ℕ → Ends → Ends
with_sign text e = ends (sign_before text e.anchor) e.cursor

-- the word, or big word, that holds an offset
abbrev pub inner_word : Bool → List ℕ → ℕ → Option Ends
inner_word big text o = char_run (is_in_word_kind big) text o

-- and with the blanks behind it, up to the end of its line at most
abbrev pub around_word : Bool → List ℕ → ℕ → Option Ends
around_word big text o = option_map (with_blanks text) (inner_word big text o)

-- the blanks of a line that hold an offset
abbrev pub inner_blanks : List ℕ → ℕ → Option Ends
inner_blanks text o = char_run is_blank text o

-- and where newlines count as blanks, for the cursor too
abbrev pub around_blanks : List ℕ → ℕ → Option Ends
around_blanks text o = char_run is_gap text o

-- the digits that hold an offset
abbrev pub inner_number : List ℕ → ℕ → Option Ends
inner_number text o = char_run is_digit text o

-- and with a minus sign before them
abbrev pub around_number : List ℕ → ℕ → Option Ends
around_number text o = option_map (with_sign text) (inner_number text o)
