use Rattle.std.proofs.Common.{◌≤◌, ◌≢◌, length, drop, All}
use Rattle.line_buffer.proofs.cuts.last_end.Given as goal

-- no newline stands behind
abbrev pub invariant-loop-end : goal.invariant-loop-end
invariant-loop-end l = record {
  inside : l.end ≤ length l.chars;
  none : All (λ c. c ≢ 10) (drop l.end l.chars);
}

abbrev pub decreases-loop-end : goal.decreases-loop-end
decreases-loop-end l = l.end
