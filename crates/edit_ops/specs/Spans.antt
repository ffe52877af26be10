-- Lines that selections reach: ascending, and each once.
use Rattle.std.specs.Prelude.{◌≡◌, ℕ, ◌-◌, ◌<◌, ◌≤◌, max, Bool, true, nat_le, ◌&&◌, List, length, map}
use Rattle.std.specs.List.{filter, list_any, range_with_len}
use Rattle.text_model.specs.Texts.{IsText, line_count, coord_at, offset}
use Rattle.list_model.specs.Ranges.{Range}
use Rattle.edit_ops.specs.declared.spans.LineSpan.{LineSpan}
use Rattle.edit_ops.specs.declared.spans.LineReach.{LineReach}
use Rattle.edit_ops.specs.declared.spans.LineReach.TheVariants.{Touched, Joined}

-- the line of an offset
abbrev pub line_of : List ℕ → ℕ → ℕ
line_of text o = (coord_at text o).line

-- the offset at which a line begins; behind the last line, the end
abbrev pub line_start : List ℕ → ℕ → ℕ
line_start text n = offset text (record { line = n; column = 0 })

-- the lines that a range touches, from the line of its first character to that of its last; and those that it joins to the
-- next one, which are all of these but the last, or the only one
abbrev pub line_span_of : List ℕ → LineReach → Range → LineSpan
line_span_of text Touched r = record { first = line_of text r.low; last = line_of text r.high }
line_span_of text Joined r = record { first = line_of text r.low; last = max (line_of text r.low) (line_of text r.high - 1) }

-- whether a line is one of them
abbrev pub is_in : ℕ → LineSpan → Bool
is_in n s = nat_le s.first n && nat_le n s.last

-- the numbers below a count that are in some of the spans: ascending, and each once
abbrev pub numbers_in : ℕ → List LineSpan → List ℕ
numbers_in count spans = filter (λ n. list_any (is_in n) spans) (range_with_len 0 count)

-- how many lines of a text can be reached: the last one can't be joined to a next one
abbrev pub reachable : List ℕ → LineReach → ℕ
reachable text Touched = line_count text
reachable text Joined = line_count text - 1

-- the lines that the ranges of a list reach
abbrev pub lines_reached : List ℕ → LineReach → List Range → List ℕ
lines_reached text reach rs = numbers_in (reachable text reach) (map (line_span_of text reach) rs)

-- a range holds a character of a line
abbrev pub HoldsSomeOf : List ℕ → Range → ℕ → Type 0
HoldsSomeOf text r n = (o : ℕ) × (r.low ≤ o) × (o ≤ r.high) × (line_of text o ≡ n)

-- the lines that a range of a text touches are those of which it holds a character
pub record TouchedAreHeld : Type 0 where
  pub held : (text : List ℕ) (r : Range) (n : ℕ) → IsText text → r.low ≤ r.high → r.high < length text → is_in n (line_span_of text Touched r) ≡ true → HoldsSomeOf text r n
  pub touched : (text : List ℕ) (r : Range) (n : ℕ) → r.high < length text → HoldsSomeOf text r n → is_in n (line_span_of text Touched r) ≡ true
