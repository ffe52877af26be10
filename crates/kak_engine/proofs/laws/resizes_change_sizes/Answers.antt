use Rattle.kak_engine.proofs.SizeLemmas.{resizes_change_sizes}
use Rattle.kak_engine.proofs.laws.resizes_change_sizes.Goals as goal

pub returns : goal.returns
returns c = resizes_change_sizes
