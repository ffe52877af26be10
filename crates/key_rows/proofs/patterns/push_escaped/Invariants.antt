use Rattle.std.proofs.Common.{◌≡◌, ◌++◌, take}
use Rattle.key_rows.specs.Patterns.{escaped_pattern}
use Rattle.key_rows.proofs.patterns.push_escaped.Given as goal

-- the characters so far were added
abbrev pub invariant-loop-c : goal.invariant-loop-c
invariant-loop-c l = l.pattern ≡ l.fn.pattern ++ escaped_pattern (take l.c-index l.chars)
