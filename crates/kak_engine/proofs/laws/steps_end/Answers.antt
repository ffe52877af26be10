use Rattle.kak_engine.proofs.TurnLemmas.{steps_end}
use Rattle.kak_engine.proofs.laws.steps_end.Goals as goal

pub returns : goal.returns
returns c = steps_end
