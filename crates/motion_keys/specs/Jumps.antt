-- Motions that search the text: to a character, and to the bracket that belongs to another one.
use Rattle.std.specs.Prelude.{◌≡◌, ℕ, ◌+◌, ◌-◌, ◌==◌, Bool, true, false, if◌then◌else◌, List, length, slice_index, slice_range, count_by, None, Some, is_some, option_map, option_and_then}
use Rattle.std.specs.declared.option.Option.{Option}
use Rattle.list_model.specs.Ranges.{Range, cursor}
use Rattle.selection_set.specs.declared.sel.Pair.{Pair}
use Rattle.selection_set.specs.Listing.{range_between, range_of_pair, IsPairInside}
use Rattle.motion_keys.specs.declared.bracket_kinds.Bracket.{Bracket}
use Rattle.directions.specs.declared.direction.Direction.{Direction}
use Rattle.directions.specs.declared.direction.Direction.TheVariants.{Forward, Backward}
use Rattle.motion_keys.specs.declared.char_moves.CharSearch.{CharSearch}
use Rattle.motion_keys.specs.declared.char_moves.Until.{Until}
use Rattle.motion_keys.specs.declared.char_moves.Until.TheVariants.{On, Before}
use Rattle.directions.specs.Directions.{direction_of}
use Rattle.motion_keys.specs.Extremes.{least_between, greatest_below}
use Rattle.motion_keys.specs.Landmarks.{line_begin, line_of}

-- whether a character stands at an offset
abbrev pub holds : List ℕ → ℕ → ℕ → Bool
holds text c o = slice_index text o == c

-- the least offset behind another one that holds a character
abbrev pub next_with : List ℕ → ℕ → ℕ → Option ℕ
next_with text c o = least_between (holds text c) (o + 1) (length text)

-- the greatest offset before another one that holds a character
abbrev pub last_with : List ℕ → ℕ → ℕ → Option ℕ
last_with text c o = greatest_below (holds text c) o

-- a search on or else back, onto a character or else up to it
abbrev pub until_of : Bool → Until
until_of true = On
until_of false = Before

abbrev pub search_of : Bool → Bool → CharSearch
search_of forward onto = record { direction = direction_of forward; until = until_of onto }

-- the next offset that holds a character, or the one before it; backward the last one, or the one behind it
abbrev pub char_place : List ℕ → ℕ → ℕ → Direction → Until → Option ℕ
char_place text o c Forward On = next_with text c o
char_place text o c Forward Before = option_map (λ n. n - 1) (next_with text c o)
char_place text o c Backward On = last_with text c o
char_place text o c Backward Before = option_map (λ n. n + 1) (last_with text c o)

-- from the cursor to there
abbrev pub to_char : List ℕ → Range → ℕ → CharSearch → Option Range
to_char text r c search = option_map (range_between (cursor r)) (char_place text (cursor r) c search.direction search.until)

-- the brackets: ( 40 and ) 41, [ 91 and ] 93, { 123 and } 125, < 60 and > 62, each with the one that belongs to it
abbrev pub opening : ℕ → Bracket
opening c = record { other = c; opens = true }

abbrev pub closing : ℕ → Bracket
closing c = record { other = c; opens = false }

abbrev pub bracket_of : ℕ → Option Bracket
bracket_of c =
    if c == 40 then Some (opening 41) else (if c == 41 then Some (closing 40) else (if c == 91 then Some (opening 93) else (if c == 93 then Some (closing 91) else (if c == 123 then Some (opening 125) else (if c == 125 then Some (closing 123) else (if c == 60 then Some (opening 62) else (if c == 62 then Some (closing 60) else None)))))))

-- whether a bracket stands at an offset
abbrev pub has_bracket : List ℕ → ℕ → Bool
has_bracket text o = is_some (bracket_of (slice_index text o))

-- the offset behind the line of an offset
abbrev pub line_end : List ℕ → ℕ → ℕ
line_end text o = line_begin text (line_of text o + 1)

-- the first bracket from an offset to the end of its line
abbrev pub first_bracket : List ℕ → ℕ → Option ℕ
first_bracket text o = least_between (has_bracket text) o (line_end text o)

-- whether from an offset up to another there are as many of one character as of another
abbrev pub are_even : List ℕ → ℕ → ℕ → ℕ → ℕ → Bool
are_even text a b from to = count_by (λ c. c == a) (slice_range text from (to + 1)) == count_by (λ c. c == b) (slice_range text from (to + 1))

-- where the bracket at an offset is matched: a bracket that opens, at the least later offset up to which as many of its
-- kind close as open; one that closes, at the greatest earlier one
abbrev pub match_of : List ℕ → ℕ → Bracket → Option ℕ
match_of text o b =
    if b.opens
    then least_between (are_even text (slice_index text o) b.other o) (o + 1) (length text)
    else greatest_below (λ n. are_even text (slice_index text o) b.other n o) o

-- from the bracket at an offset to its match
abbrev pub bracket_range : List ℕ → ℕ → Option Range
bracket_range text o = option_and_then (λ b. option_map (range_between o) (match_of text o b)) (bracket_of (slice_index text o))

-- from the first bracket at the cursor or behind it on its line to its match
abbrev pub bracket : List ℕ → Range → Option Range
bracket text r = option_and_then (bracket_range text) (first_bracket text (cursor r))

-- both found nothing, or the ends that were found are places and make the range
abbrev pub RangesAre : List ℕ → Option Pair → Option Range → Type 0
RangesAre text None found = found ≡ None
RangesAre text (Some pair) found = IsPairInside text pair × (found ≡ Some (range_of_pair text pair))
