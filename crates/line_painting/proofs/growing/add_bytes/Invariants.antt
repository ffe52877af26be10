use Rattle.std.proofs.Common.{◌≡◌, ◌++◌, length}
use Rattle.line_painting.proofs.growing.add_bytes.Given as goal

-- what was added and what is left are the whole
abbrev pub invariant-loop-rest : goal.invariant-loop-rest
invariant-loop-rest l = l.chars ++ l.rest ≡ l.fn.chars ++ l.bytes

abbrev pub decreases-loop-rest : goal.decreases-loop-rest
decreases-loop-rest l = length l.rest
