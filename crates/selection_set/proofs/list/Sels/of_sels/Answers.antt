use Rattle.selection_set.proofs.PairLemmas.{vec-settles}
use Rattle.selection_set.proofs.list.Sels.of_sels.Goals as goal

pub returns-clause-settles : goal.returns-clause-settles
returns-clause-settles c = vec-settles c.of_vec.result c.in_ok-from_slice.field-0.items c.args.list.now c.args.main c.in_ok-from_slice.ensures.ok c.of_vec.ensures.settles
