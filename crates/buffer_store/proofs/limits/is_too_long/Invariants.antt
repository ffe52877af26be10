use Rattle.buffer_store.proofs.PassLemmas.{IsPassing}
use Rattle.buffer_store.proofs.limits.is_too_long.Given as goal

-- the text behind the replacements so far is known, and what is left of them decides
abbrev pub invariant-loop-splice : goal.invariant-loop-splice
invariant-loop-splice l = IsPassing l.lines l.splices l.splice-index l.at
