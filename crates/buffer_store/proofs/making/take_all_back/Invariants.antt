use Rattle.std.proofs.Common.{◌≡◌, ◌≤◌, length, drop}
use Rattle.buffer_store.specs.Stored.{backs}
use Rattle.buffer_store.specs.Traces.{trace, trace_after}
use Rattle.buffer_store.proofs.making.take_all_back.Given as goal

abbrev pub decreases-loop-left : goal.decreases-loop-left
decreases-loop-left l = l.left

-- the changes behind those that are left were taken back
abbrev pub invariant-loop-left : goal.invariant-loop-left
invariant-loop-left l = record {
  bound : l.left ≤ length l.changes;
  traced : trace l.lines l.shifts.items l.marks.items ≡ trace_after (trace l.fn.lines l.fn.shifts.items l.fn.marks.items) (backs l.fn.lines (drop l.left l.changes));
}
