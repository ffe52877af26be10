use Rattle.std.proofs.Common.{◌≡◌}
use Rattle.compact_chars.proofs.widths.decoded.Given as goal

-- the characters so far are there
abbrev pub invariant-loop-c : goal.invariant-loop-c
invariant-loop-c l = l.all.items ≡ l.yielded
