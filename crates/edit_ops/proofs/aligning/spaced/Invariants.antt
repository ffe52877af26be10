use Rattle.std.proofs.Common.{◌≡◌, ◌≤◌, ◌++◌, length, drop}
use Rattle.std.specs.Vec.{vec_capacity}
use Rattle.edit_ops.specs.Aligning.{spaced}
use Rattle.edit_ops.proofs.aligning.spaced.Given as goal

abbrev pub invariant-loop-n : goal.invariant-loop-n
invariant-loop-n l = record {
  so_far : l.splices.items ++ spaced l.last (drop l.n l.columns) (drop l.n l.sels) ≡ spaced l.last l.columns l.sels;
  count : length l.splices.items ≡ l.n;
  reserved : length l.sels ≤ vec_capacity l.splices;
}
