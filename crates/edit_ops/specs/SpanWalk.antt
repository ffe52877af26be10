-- How the lines that selections reach are found: from the first selection to the last, with the least line that may still come.
use Rattle.std.specs.Prelude.{ℕ, ◌+◌, ◌-◌, min, max, List, [], ◌∷◌, ◌++◌}
use Rattle.std.specs.List.{range_with_len}
use Rattle.selection_set.specs.declared.sel.Sel.{Sel}
use Rattle.edit_ops.specs.declared.spans.LineSpan.{LineSpan}
use Rattle.edit_ops.specs.declared.spans.LineReach.{LineReach}
use Rattle.edit_ops.specs.declared.spans.LineReach.TheVariants.{Touched, Joined}

-- the lines that a selection reaches, by its coordinates
abbrev pub span_at : LineReach → Sel → LineSpan
span_at Touched sel = record { first = sel.low.line; last = sel.high.line }
span_at Joined sel = record { first = sel.low.line; last = max sel.low.line (sel.high.line - 1) }

-- where a span ends below a count: behind its last number
abbrev pub end_below : ℕ → LineSpan → ℕ
end_below count s = min (s.last + 1) count

-- the numbers from one to before another
abbrev pub numbers_between : ℕ → ℕ → List ℕ
numbers_between from to = range_with_len from (to - from)

-- the numbers of spans below a count, each span from where it begins and none before it ended
abbrev pub walked : ℕ → ℕ → List LineSpan → List ℕ
walked count next [] = []
walked count next (s ∷ ss) = numbers_between (max next s.first) (end_below count s) ++ walked count (max next (end_below count s)) ss
