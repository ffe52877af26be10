-- The shifts gone over are a run.
use Rattle.std.proofs.Common.{length, ◌-◌, ◌≤◌, take}
use Rattle.selection_map.specs.Walking.{IsRun}
use Rattle.selection_map.proofs.catching.run_length.Given as goal

abbrev pub invariant-loop-n : goal.invariant-loop-n
invariant-loop-n l = record {
  some : 1 ≤ l.n;
  few : l.n ≤ length l.shifts;
  run : IsRun l.way (take l.n l.shifts);
}

abbrev pub decreases-loop-n : goal.decreases-loop-n
decreases-loop-n l = length l.shifts - l.n
