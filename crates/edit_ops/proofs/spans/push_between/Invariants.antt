use Rattle.std.proofs.Common.{◌≡◌, ◌+◌, ◌-◌, ◌≤◌, ◌++◌}
use Rattle.edit_ops.specs.SpanWalk.{numbers_between}
use Rattle.edit_ops.proofs.spans.push_between.Given as goal

abbrev pub invariant-loop-n : goal.invariant-loop-n
invariant-loop-n l = record { so_far : l.numbers.items ≡ l.fn.numbers.items ++ numbers_between l.from l.n; within : l.n ≤ l.from + (l.to - l.from) }
