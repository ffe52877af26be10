use Rattle.step_texts.proofs.EventLemmas.{goes_through}
use Rattle.step_texts.proofs.laws.texts_go_through.Goals as goal

pub returns : goal.returns
returns c = goes_through
