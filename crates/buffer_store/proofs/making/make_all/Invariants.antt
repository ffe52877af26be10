use Rattle.std.proofs.Common.{◌≡◌, take}
use Rattle.buffer_store.specs.Stored.{flats}
use Rattle.buffer_store.specs.Traces.{trace, trace_after}
use Rattle.buffer_store.proofs.making.make_all.Given as goal

-- the changes so far were made
abbrev pub invariant-loop-change : goal.invariant-loop-change
invariant-loop-change l = trace l.lines l.shifts.items l.marks.items ≡ trace_after (trace l.fn.lines l.fn.shifts.items l.fn.marks.items) (flats l.fn.lines (take l.change-index l.changes))
