use Rattle.regex_select.proofs.WayLemmas.{IsUnderway}
use Rattle.regex_select.proofs.stretching.search_on.Given as goal

abbrev pub invariant-loop-n : goal.invariant-loop-n
invariant-loop-n l = IsUnderway l.search l.matches l.fn.list l.list l.n l.passed
