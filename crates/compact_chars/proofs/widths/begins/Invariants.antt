use Rattle.std.proofs.Common.{◌≤◌}
use Rattle.compact_chars.proofs.widths.begins.Given as goal

abbrev pub invariant-loop-b : goal.invariant-loop-b
invariant-loop-b l = l.count ≤ l.b-index
