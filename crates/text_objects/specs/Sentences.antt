-- Sentences. Each paragraph is searched by itself: a sentence begins where its paragraph does, and at each first
-- character behind blanks and newlines that stand behind a stop.
use Rattle.std.specs.Prelude.{ℕ, ◌+◌, ◌-◌, ◌==◌, nat_le, Bool, false, not, ◌&&◌, ◌||◌, if◌then◌else◌, List, length, slice_index, None, Some, unwrap_or, option_map}
use Rattle.std.specs.declared.option.Option.{Option}
use Rattle.motion_keys.specs.Extremes.{least_between, greatest_below}
use Rattle.motion_keys.specs.Landmarks.{line_begin, line_of}
use Rattle.motion_keys.specs.Words.{Ends, ends}
use Rattle.text_objects.specs.RunObjects.{is_gap}
use Rattle.text_objects.specs.LineObjects.{is_full, paragraph_from, paragraph_to}

-- whether a character can end a sentence: the full stop (46), the semicolon (59), the exclamation (33) and the question
-- mark (63)
abbrev pub is_stop : ℕ → Bool
is_stop c = (c == 46) || ((c == 59) || ((c == 33) || (c == 63)))

-- whether an offset holds a stop that ends a sentence: a blank or a newline follows
abbrev pub is_end : List ℕ → ℕ → Bool
is_end text o = is_stop (slice_index text o) && is_gap (slice_index text (o + 1))

-- whether the character at an offset is neither a blank nor a newline
abbrev pub is_solid : List ℕ → ℕ → Bool
is_solid text o = not (is_gap (slice_index text o))

-- where the paragraph of an offset begins
abbrev pub paragraph_begin : List ℕ → ℕ → ℕ
paragraph_begin text o = line_begin text (paragraph_from text (line_of text o))

-- the offset behind it
abbrev pub paragraph_end : List ℕ → ℕ → ℕ
paragraph_end text o = line_begin text (paragraph_to text (line_of text o))

-- whether what was found is a stop that ends a sentence, from an offset on
abbrev pub is_end_from : List ℕ → ℕ → Option ℕ → Bool
is_end_from text from None = false
is_end_from text from (Some n) = nat_le from n && is_end text n

-- whether a character follows the end of another sentence of its paragraph: it is neither a blank nor a newline, and
-- the last such character before it is a stop that ends a sentence
abbrev pub follows_end : List ℕ → ℕ → Bool
follows_end text o = is_solid text o && is_end_from text (paragraph_begin text o) (greatest_below (is_solid text) o)

-- whether a sentence begins at an offset
abbrev pub is_begin : List ℕ → ℕ → Bool
is_begin text o = is_full text (line_of text o) && ((o == paragraph_begin text o) || follows_end text o)

-- where the sentence of an offset begins: the greatest begin up to it
abbrev pub sentence_begin : List ℕ → ℕ → Option ℕ
sentence_begin text o = greatest_below (is_begin text) (o + 1)

-- the last offset of the sentence that begins at an offset: its end, or the one before the paragraph's last newline
abbrev pub sentence_last : List ℕ → ℕ → ℕ
sentence_last text b = unwrap_or (least_between (is_end text) b (paragraph_end text b)) (paragraph_end text b - 2)

-- the last offset before the next begin, or the text's last
abbrev pub before_next : List ℕ → ℕ → ℕ
before_next text b = unwrap_or (least_between (is_begin text) (b + 1) (length text)) (length text) - 1

-- the sentence of an offset: none on an empty line
abbrev pub inner_sentence : List ℕ → ℕ → Option Ends
inner_sentence text o =
    if is_full text (line_of text o) then option_map (λ b. ends b (sentence_last text b)) (sentence_begin text o) else None

-- and with all that stands before the next one
abbrev pub around_sentence : List ℕ → ℕ → Option Ends
around_sentence text o =
    if is_full text (line_of text o) then option_map (λ b. ends b (before_next text b)) (sentence_begin text o) else None
