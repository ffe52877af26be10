use Rattle.std.proofs.Common.{rules}
use Rattle.std.proofs.lemmas.Fn.{filter_same}
use Rattle.engine_desk.proofs.shared.note.Goals as goal

pub returns-in-Going-clause-here : goal.returns-in-Going-clause-here
returns-in-Going-clause-here c = rw c.in-Going.is (filter_same _ _ _ (λ x b f' k. search rules) _ _ c.retain.ensures.filtered)
