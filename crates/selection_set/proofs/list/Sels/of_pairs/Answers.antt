use Rattle.selection_set.proofs.PairLemmas.{vec-pairs-settle}
use Rattle.selection_set.proofs.list.Sels.of_pairs.Goals as goal

pub returns-clause-settles : goal.returns-clause-settles
returns-clause-settles c = vec-pairs-settle c.of_vec.result c.in_ok-sels_of.field-0.items c.args.pairs.now c.args.main c.in_ok-sels_of.ensures.ok c.of_vec.ensures.settles
