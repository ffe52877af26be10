-- The clients before the next one have the same lists twice.
use Rattle.text_trials.specs.ShelfTrials.{StandTogether}
use Rattle.text_trials.proofs.list_shelf_tests.filled.Given as goal

abbrev pub invariant-loop-who : goal.invariant-loop-who
invariant-loop-who l = StandTogether l.lines l.shelf l.eager.items
