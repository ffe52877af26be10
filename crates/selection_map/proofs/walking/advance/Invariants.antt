-- The rest of the way is what is left of the whole.
use Rattle.std.proofs.Common.{length, ◌-◌, ◌+◌, ◌≤◌, ◌≡◌, drop}
use Rattle.selection_map.specs.Walking.{queue, advanced}
use Rattle.selection_map.specs.Premises.{CanAdvance}
use Rattle.selection_map.proofs.walking.advance.Given as goal

abbrev pub invariant-loop-passed : goal.invariant-loop-passed
invariant-loop-passed g l = record {
  can : CanAdvance l.way l.shifts (record { reach = l.reach; passed = l.passed }) l.at;
  same : advanced l.way l.at l.reach (drop l.passed (queue l.way l.shifts)) ≡ advanced l.way l.at l.fn.walk.reach (drop l.fn.walk.passed (queue l.way l.shifts));
  few : l.passed ≤ length l.shifts;
  turns : l.steps + l.fn.walk.passed ≡ l.fn.steps + l.passed + 1;
}

abbrev pub decreases-loop-passed : goal.decreases-loop-passed
decreases-loop-passed g l = length l.shifts - l.passed
