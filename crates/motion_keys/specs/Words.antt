-- The motions by words: what each selects from a cursor, and where it finds no place. A word is a run of characters of
-- class Word, and a run of class Mark is one too; for big words these two classes are one.
use Rattle.std.specs.Prelude.{◌≡◌, ℕ, Bool, true, false, not, if◌then◌else◌, List, slice_index, None, Some, option_map, option_and_then}
use Rattle.std.specs.declared.option.Option.{Option}
use Rattle.text_model.specs.Texts.{offset, IsPlace}
use Rattle.kak_text.specs.declared.classes.Class.{Class}
use Rattle.kak_text.specs.declared.classes.Class.TheVariants.{Line, Blank}
use Rattle.kak_text.specs.Classes.{class_of, wide, is_same}
use Rattle.selection_set.specs.declared.sel.Pair.{Pair}
use Rattle.directions.specs.declared.direction.Direction.TheVariants.{Forward, Backward}
use Rattle.motion_keys.specs.declared.words.WordKind.{WordKind}
use Rattle.motion_keys.specs.declared.words.WordKind.TheVariants.{Small, Big}
use Rattle.motion_keys.specs.declared.words.WordMove.{WordMove}
use Rattle.motion_keys.specs.declared.words.WordMove.TheVariants.{Next, End, Back}
use Rattle.motion_keys.specs.Motions.{offset_beside}
use Rattle.motion_keys.specs.Nearest.{least_from, greatest_to}

-- big words, or else small ones
abbrev pub word_kind : Bool → WordKind
word_kind true = Big
word_kind false = Small

-- the class of a character, for words or for big words
abbrev pub class_for : WordKind → ℕ → Class
class_for Small c = class_of c
class_for Big c = wide (class_of c)

-- the class of the character at an offset
abbrev pub class_at : WordKind → List ℕ → ℕ → Class
class_at kind text o = class_for kind (slice_index text o)

-- whether a character is of another class
abbrev pub is_other : WordKind → Class → ℕ → Bool
is_other kind class c = not (is_same (class_for kind c) class)

-- the first of two offsets where their characters are of one class, else the second
abbrev pub with_its_class : WordKind → List ℕ → ℕ → ℕ → ℕ
with_its_class kind text o n = if is_same (class_at kind text o) (class_at kind text n) then o else n

-- the first and the last offset that a motion selects, in the order of its way: its anchor and its cursor
pub record Ends : Type 0 where
  pub anchor : ℕ
  pub cursor : ℕ

abbrev pub ends : ℕ → ℕ → Ends
ends a c = record { anchor = a; cursor = c }

-- where a motion forward begins: at the least offset whose character is no newline, from the cursor on, or, where the
-- character behind the cursor is of another class, from that one on. None where the cursor is at the last character
abbrev pub begin_ahead : WordKind → List ℕ → ℕ → Option ℕ
begin_ahead kind text o = option_and_then (λ n. least_from (is_other kind Line) text (with_its_class kind text o n)) (offset_beside text o Forward)

-- the offset behind the run of one class that goes on from an offset
abbrev pub behind_run : WordKind → List ℕ → ℕ → Option ℕ
behind_run kind text o = least_from (is_other kind (class_at kind text o)) text o

-- the last offset of the run of one class that goes on from an offset
abbrev pub run_last : WordKind → List ℕ → ℕ → Option ℕ
run_last kind text o = option_and_then (λ n. offset_beside text n Backward) (behind_run kind text o)

-- behind the word at an offset, or behind the one blank there
abbrev pub behind_word : WordKind → List ℕ → ℕ → Option ℕ
behind_word kind text o = if is_same (class_at kind text o) Blank then offset_beside text o Forward else behind_run kind text o

-- the last of the blanks behind the word at an offset, or, without blanks, the word's last
abbrev pub last_before_next : WordKind → List ℕ → ℕ → Option ℕ
last_before_next kind text o =
    option_and_then (λ n. offset_beside text n Backward) (option_and_then (least_from (is_other kind Blank) text) (behind_word kind text o))

-- the last character of the word that follows the blanks from an offset on, or the last blank of the line
abbrev pub last_of_word : WordKind → List ℕ → ℕ → Option ℕ
last_of_word kind text o =
    option_and_then (λ n. if is_same (class_at kind text n) Line then offset_beside text n Backward else run_last kind text n) (least_from (is_other kind Blank) text o)

-- where a motion back begins: at the greatest offset whose character is no newline, up to the cursor, or, where the
-- character before the cursor is of another class, up to that one. None where the cursor is at the first character
abbrev pub begin_back : WordKind → List ℕ → ℕ → Option ℕ
begin_back kind text o = option_and_then (λ n. greatest_to (is_other kind Line) text (with_its_class kind text o n)) (offset_beside text o Backward)

-- the offset behind another, or the first one of the text where there is none
abbrev pub behind_or_first : List ℕ → Option ℕ → Option ℕ
behind_or_first text None = Some 0
behind_or_first text (Some n) = offset_beside text n Forward

-- the first offset of the run of one class that goes back from an offset
abbrev pub run_first : WordKind → List ℕ → ℕ → Option ℕ
run_first kind text o = behind_or_first text (greatest_to (is_other kind (class_at kind text o)) text o)

-- the first character of the word that ends at an offset, or, where a newline is there, of the next line
abbrev pub start_of_word : WordKind → List ℕ → ℕ → Option ℕ
start_of_word kind text o = if is_same (class_at kind text o) Line then offset_beside text o Forward else run_first kind text o

-- the same, or the first character of the text where there is no offset
abbrev pub start_or_first : WordKind → List ℕ → Option ℕ → Option ℕ
start_or_first kind text None = Some 0
start_or_first kind text (Some n) = start_of_word kind text n

-- the first character of the word that precedes the blanks up to an offset, or the first of the blanks where they begin
-- a line
abbrev pub first_of_word : WordKind → List ℕ → ℕ → Option ℕ
first_of_word kind text o = start_or_first kind text (greatest_to (is_other kind Blank) text o)

-- where a motion begins, and where it ends from there
abbrev pub joined_ends : (ℕ → Option ℕ) → Option ℕ → Option Ends
joined_ends last begin = option_and_then (λ b. option_map (ends b) (last b)) begin

-- what a motion by words selects from a cursor: to before the next word, to the end of the word, back to its start
abbrev pub word_ends : WordMove → WordKind → List ℕ → ℕ → Option Ends
word_ends Next kind text o = joined_ends (last_before_next kind text) (begin_ahead kind text o)
word_ends End kind text o = joined_ends (last_of_word kind text) (begin_ahead kind text o)
word_ends Back kind text o = joined_ends (first_of_word kind text) (begin_back kind text o)

-- both found nothing, or the coordinates of the pair are the places at the two offsets
abbrev pub EndsAre : List ℕ → Option Pair → Option Ends → Type 0
EndsAre text None found = found ≡ None
EndsAre text (Some pair) found = IsPlace text pair.anchor × IsPlace text pair.cursor × (found ≡ Some (ends (offset text pair.anchor) (offset text pair.cursor)))
