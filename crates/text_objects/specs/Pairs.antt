-- Pairs of brackets and of quotes, and the innermost that holds a cursor.
use Rattle.std.specs.Prelude.{ℕ, ◌+◌, ◌-◌, ◌%◌, ◌==◌, nat_lt, nat_le, Bool, false, ◌&&◌, if◌then◌else◌, List, length, slice_range, count_by, None, Some, option_map, option_and_then}
use Rattle.std.specs.declared.option.Option.{Option}
use Rattle.motion_keys.specs.Extremes.{least_between, greatest_below}
use Rattle.motion_keys.specs.Jumps.{are_even, holds, line_end}
use Rattle.motion_keys.specs.Landmarks.{line_begin, line_of}
use Rattle.motion_keys.specs.Words.{Ends, ends}

-- whether an offset was found, and isn't before another one
abbrev pub reaches : Option ℕ → ℕ → Bool
reaches None o = false
reaches (Some n) o = nat_le o n

-- where the pair begins that holds an offset and has the greatest begin, by the end of the pair that begins at each
-- offset; an end of a pair is held by it
abbrev pub innermost_begin : (ℕ → Option ℕ) → ℕ → Option ℕ
innermost_begin mate o = greatest_below (λ a. reaches (mate a) o) (o + 1)

-- that pair
abbrev pub innermost : (ℕ → Option ℕ) → ℕ → Option Ends
innermost mate o = option_and_then (λ a. option_map (ends a) (mate a)) (innermost_begin mate o)

-- what stands between two ends; nothing is no place
abbrev pub inside : Ends → Option Ends
inside e = if nat_lt (e.anchor + 1) e.cursor then Some (ends (e.anchor + 1) (e.cursor - 1)) else None

-- the offset that matches a bracket which opens at an offset: the least later one up to which as many of its kind close
-- as open. Brackets of other kinds don't count
abbrev pub bracket_mate : ℕ → ℕ → List ℕ → ℕ → Option ℕ
bracket_mate opening closing text a = if holds text opening a then least_between (are_even text opening closing a) (a + 1) (length text) else None

-- the innermost pair of brackets of a kind that holds an offset
abbrev pub around_brackets : ℕ → ℕ → List ℕ → ℕ → Option Ends
around_brackets opening closing text o = innermost (bracket_mate opening closing text) o

-- what stands between them
abbrev pub inner_brackets : ℕ → ℕ → List ℕ → ℕ → Option Ends
inner_brackets opening closing text o = option_and_then inside (around_brackets opening closing text o)

-- how many of a quote stand before an offset on its line
abbrev pub quotes_before : ℕ → List ℕ → ℕ → ℕ
quotes_before quote text o = count_by (λ c. c == quote) (slice_range text (line_begin text (line_of text o)) o)

-- whether a quote at an offset opens: the quotes of a line are paired from its left
abbrev pub quote_opens : ℕ → List ℕ → ℕ → Bool
quote_opens quote text a = holds text quote a && (quotes_before quote text a % 2 == 0)

-- the offset of the quote that closes one: the next on its line
abbrev pub quote_mate : ℕ → List ℕ → ℕ → Option ℕ
quote_mate quote text a = if quote_opens quote text a then least_between (holds text quote) (a + 1) (line_end text a) else None

-- the pair of quotes that holds an offset
abbrev pub around_quotes : ℕ → List ℕ → ℕ → Option Ends
around_quotes quote text o = innermost (quote_mate quote text) o

-- what stands between them
abbrev pub inner_quotes : ℕ → List ℕ → ℕ → Option Ends
inner_quotes quote text o = option_and_then inside (around_quotes quote text o)
