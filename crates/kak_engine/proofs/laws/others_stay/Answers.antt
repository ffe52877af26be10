use Rattle.kak_engine.proofs.PresenceLemmas.{others_stay}
use Rattle.kak_engine.proofs.laws.others_stay.Goals as goal

pub returns : goal.returns
returns c = others_stay
