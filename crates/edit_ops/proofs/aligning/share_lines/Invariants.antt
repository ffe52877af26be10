use Rattle.std.proofs.Common.{◌≡◌, ◌-◌, ◌≤◌, drop}
use Rattle.edit_ops.specs.Aligning.{shares_with_next}
use Rattle.edit_ops.proofs.aligning.share_lines.Given as goal

abbrev pub invariant-loop-n : goal.invariant-loop-n
invariant-loop-n l = record {
  some : 1 ≤ l.n;
  goes_on : shares_with_next (drop (l.n - 1) l.sels) ≡ shares_with_next l.sels;
}
