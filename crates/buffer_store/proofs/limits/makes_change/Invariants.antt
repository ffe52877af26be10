use Rattle.buffer_store.proofs.LimitLemmas.{IsUnchanged}
use Rattle.buffer_store.proofs.limits.makes_change.Given as goal

-- the replacements so far change nothing
abbrev pub invariant-loop-splice : goal.invariant-loop-splice
invariant-loop-splice l = IsUnchanged l.lines l.splices l.splice-index
