use Rattle.std.proofs.Common.{◌≡◌, ◌+◌, ◌-◌, ◌≤◌, length, drop}
use Rattle.move_marks.specs.Joining.{count_ahead}
use Rattle.move_marks.proofs.joining.count_ahead.Given as goal

abbrev pub invariant-loop-n : goal.invariant-loop-n
invariant-loop-n l = record {
  few : l.n ≤ length l.list;
  counted : l.n + count_ahead l.low (drop l.n l.list) ≡ count_ahead l.low l.list;
}

abbrev pub decreases-loop-n : goal.decreases-loop-n
decreases-loop-n l = length l.list - l.n
