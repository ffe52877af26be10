-- The shelf and the other lists stand together.
use Rattle.text_trials.specs.ShelfTrials.{StandTogether}
use Rattle.text_trials.proofs.list_shelf_tests.play.Given as goal

abbrev pub invariant-loop : goal.invariant-loop
invariant-loop g l = StandTogether l.twice.lines l.twice.shelf l.twice.eager.items
