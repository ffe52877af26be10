-- The selections before the next one went through all shifts, and the walk can go on over the others.
use Rattle.std.proofs.Common.{◌≡◌, ◌+◌, ◌*◌, ◌-◌, ◌≤◌, length, take, drop}
use Rattle.selection_map.specs.Reaching.{through}
use Rattle.selection_map.specs.Premises.{CanWalkOver}
use Rattle.selection_map.specs.Staying.{count_moved}
use Rattle.selection_map.proofs.FrontLemmas.{mapped_front}
use Rattle.selection_map.proofs.walking.walk_sels.Given as goal

abbrev pub invariant-loop-n : goal.invariant-loop-n
invariant-loop-n g l = record {
  front : l.sels.list ≡ mapped_front l.n (through l.shifts) l.initial.sels.list;
  many : length l.sels.list ≡ length l.initial.sels.list;
  main : l.sels.main ≡ l.initial.sels.main;
  over : CanWalkOver l.way l.shifts l.walk (drop l.n l.initial.sels.list);
  within : l.n ≤ length l.initial.sels.list;
  few : l.walk.passed ≤ length l.shifts;
  ends : l.initial.steps + (2 * count_moved l.shifts (take l.n l.initial.sels.list) + l.walk.passed) ≤ l.steps;
  turns : l.steps + 2 * l.from ≤ l.initial.steps + (2 * l.n + l.walk.passed);
}

abbrev pub decreases-loop-n : goal.decreases-loop-n
decreases-loop-n g l = l.count - l.n
