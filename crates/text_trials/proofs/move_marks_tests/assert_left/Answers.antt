use Rattle.text_trials.proofs.TrialLemmas.{trial-marked}
use Rattle.text_trials.proofs.move_marks_tests.assert_left.Goals as goal

pub list_left-requires-clause-marked : goal.list_left-requires-clause-marked
list_left-requires-clause-marked g c = trial-marked c.args.marks.now c.args.shifts.now c.requires.trial
