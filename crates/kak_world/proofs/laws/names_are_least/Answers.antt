use Rattle.kak_world.proofs.NameLemmas.{names_are_least}
use Rattle.kak_world.proofs.laws.names_are_least.Goals as goal

pub returns : goal.returns
returns c = names_are_least
