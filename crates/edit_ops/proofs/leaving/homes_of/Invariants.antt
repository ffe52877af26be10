use Rattle.std.proofs.Common.{◌≡◌, ◌-◌, ◌≤◌, length, drop}
use Rattle.std.specs.Vec.{vec_capacity}
use Rattle.edit_ops.specs.Passing.{homes}
use Rattle.edit_ops.proofs.leaving.homes_of.Given as goal

abbrev pub invariant-loop-n : goal.invariant-loop-n
invariant-loop-n l = record {
  so_far : l.homes.items ≡ homes (drop (length l.shifts - l.n) l.shifts);
  count : length l.homes.items ≡ l.n;
  reserved : length l.shifts ≤ vec_capacity l.homes;
}
