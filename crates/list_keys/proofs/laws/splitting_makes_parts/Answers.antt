use Rattle.list_keys.proofs.SplitLemmas.{splitting_makes_parts}
use Rattle.list_keys.proofs.laws.splitting_makes_parts.Goals as goal

pub returns : goal.returns
returns c = splitting_makes_parts
