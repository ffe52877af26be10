use Rattle.kak_world.proofs.GapLemmas.{gaps_are_taken}
use Rattle.kak_world.proofs.laws.gaps_are_taken.Goals as goal

pub returns : goal.returns
returns c = gaps_are_taken
