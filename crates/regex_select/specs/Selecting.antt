-- What matches select. A match is a range of the bytes of what was searched.
use Rattle.std.specs.Prelude.{ℕ, ◌+◌, ◌-◌, min, nat_lt, false, if◌then◌else◌, None, List, [], ◌∷◌, ◌++◌, length, flat_map}
use Rattle.list_model.specs.Ranges.{Range, Selected}
use Rattle.list_model.specs.Settling.{settled}
use Rattle.regex_ports.specs.declared.pattern.Span.{Span}
use Rattle.regex_ports.specs.Matching.{chars_before}
use Rattle.regex_select.specs.Rows.{selected_chars, spans_in}

-- what lies from an offset on and before another, as a straight selection without a target; nothing is none
abbrev pub part_between : ℕ → ℕ → List Range
part_between from to = if nat_lt from to then (record { low = from; high = to - 1; turned = false; target = None }) ∷ [] else []

-- behind what a match selects that lies from one of some characters on and before another: an empty one selects the
-- character at its place, and nothing at their end
abbrev pub match_end : List ℕ → ℕ → ℕ → ℕ
match_end chars from to = if nat_lt from to then to else min (from + 1) (length chars)

-- what a match selects in characters that begin at an offset
abbrev pub selected_by : List ℕ → ℕ → Span → List Range
selected_by chars low s = part_between (low + chars_before chars s.start) (low + match_end chars (chars_before chars s.start) (chars_before chars s.end))

-- what some matches select
abbrev pub selected_by_all : List ℕ → ℕ → List Span → List Range
selected_by_all chars low spans = flat_map (selected_by chars low) spans

-- what stands in characters that begin at an offset, from one of them on, before, between and behind some matches, where
-- that isn't empty
abbrev pub parts_from : List ℕ → ℕ → ℕ → List Span → List Range
parts_from chars low from [] = part_between (low + from) (low + length chars)
parts_from chars low from (s ∷ ss) = part_between (low + from) (low + chars_before chars s.start) ++ parts_from chars low (chars_before chars s.end) ss

-- what the matches in a selection select
abbrev pub matched_in : List ℕ → List ℕ → Range → List Range
matched_in source text r = selected_by_all (selected_chars text r) r.low (spans_in source (selected_chars text r))

-- the parts that they leave of it
abbrev pub split_in : List ℕ → List ℕ → Range → List Range
split_in source text r = parts_from (selected_chars text r) r.low 0 (spans_in source (selected_chars text r))

-- what is made of all selections, as a settled list; the last one is the main one
abbrev pub made_each : (Range → List Range) → Selected → Selected
made_each made s = settled (record { list = flat_map made s.list; main = length (flat_map made s.list) - 1 })
