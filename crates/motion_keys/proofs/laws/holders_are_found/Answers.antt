use Rattle.motion_keys.proofs.HolderLemmas.{found-holds}
use Rattle.motion_keys.proofs.laws.holders_are_found.Goals as goal

pub returns : goal.returns
returns c = found-holds
