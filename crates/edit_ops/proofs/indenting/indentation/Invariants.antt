use Rattle.std.proofs.Common.{◌≡◌, replicate}
use Rattle.edit_ops.proofs.indenting.indentation.Given as goal

abbrev pub invariant-loop : goal.invariant-loop
invariant-loop l = l.chars ≡ replicate l.counter 32
