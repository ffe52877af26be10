use Rattle.std.proofs.Common.{rules}
use Rattle.std.proofs.lemmas.List.Sorted.{IsNonDecreasingBy-from_sort_by_key}
use Rattle.smallvec.proofs.SmallVecLemmas.{items-with_items}
use Rattle.selection_set.specs.Numbering.{rank}
use Rattle.selection_set.proofs.order.sort.Goals as goal

pub returns-clause-order : goal.returns-clause-order
returns-clause-order c = rw (items-with_items c.args.all.now c.sort_unstable_by_key.new.self (search rules))
    (IsNonDecreasingBy-from_sort_by_key rank _ c.sort_unstable_by_key.ensures.sorted (λ a r q k. search rules))
