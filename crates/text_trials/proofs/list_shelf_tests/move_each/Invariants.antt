-- The lists before the next one have moved.
use Rattle.text_trials.proofs.ShelfTrialLemmas.{MovedBefore}
use Rattle.text_trials.proofs.list_shelf_tests.move_each.Given as goal

abbrev pub invariant-loop-n : goal.invariant-loop-n
invariant-loop-n l = MovedBefore l.shift l.initial.lists.items l.lists.items l.n
