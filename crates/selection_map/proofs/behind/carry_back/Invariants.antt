-- The selections before the next one stand where they were, the others have gone.
use Rattle.selection_map.proofs.BackLemmas.{IsGoing}
use Rattle.selection_map.proofs.behind.carry_back.Given as goal

abbrev pub invariant-loop-n : goal.invariant-loop-n
invariant-loop-n l = record { going : IsGoing l.shifts l.initial.sels l.sels l.n l.way }

abbrev pub decreases-loop-n : goal.decreases-loop-n
decreases-loop-n l = l.n
