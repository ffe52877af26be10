use Rattle.text_coding.proofs.InverseLemmas.{saving}
use Rattle.text_coding.proofs.laws.saving_is_inverse.Goals as goal

pub returns : goal.returns
returns c = saving
