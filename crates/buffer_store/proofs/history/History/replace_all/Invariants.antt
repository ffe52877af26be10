use Rattle.buffer_store.proofs.EditingLemmas.{IsEditing}
use Rattle.buffer_store.proofs.history.History.replace_all.Given as goal

-- the replacements so far were made
abbrev pub invariant-loop-splice : goal.invariant-loop-splice
invariant-loop-splice l = IsEditing l.fn.who l.fn.self l.splices l.splice-index l.self l.from l.to l.shifts.items
