-- The selections before the next one end before the next ones begin.
use Rattle.std.proofs.Common.{◌≤◌, ◌-◌, take}
use Rattle.selection_map.specs.Staying.{EndBeforeNext}
use Rattle.selection_map.proofs.staying.end_before_next.Given as goal

abbrev pub invariant-loop-n : goal.invariant-loop-n
invariant-loop-n l = record {
  some : 1 ≤ l.n;
  front : EndBeforeNext (take l.n l.sels.list);
}

abbrev pub decreases-loop-n : goal.decreases-loop-n
decreases-loop-n l = l.count - l.n
