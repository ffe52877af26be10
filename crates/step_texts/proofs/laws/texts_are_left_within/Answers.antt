use Rattle.step_texts.proofs.LeftLemmas.{left_within}
use Rattle.step_texts.proofs.laws.texts_are_left_within.Goals as goal

pub returns : goal.returns
returns c = left_within
