use Rattle.kak_engine.proofs.DoingLemmas.{within-deep}
use Rattle.kak_engine.proofs.laws.bound_ends_no_step.Goals as goal

pub returns : goal.returns
returns c = within-deep
