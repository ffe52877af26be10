use Rattle.text_trials.proofs.TrialLemmas.{trial-catchable}
use Rattle.text_trials.proofs.selection_map_tests.assert_caught_up.Goals as goal

pub catch_up-requires : goal.catch_up-requires
catch_up-requires g c = trial-catchable c.args.given.now c.args.shifts.now c.args.main c.in_ok-list.list c.requires.trial c.in_ok-list.ensures.settles

pub one_by_one-requires : goal.one_by_one-requires
one_by_one-requires g c = trial-catchable c.args.given.now c.args.shifts.now c.args.main c.in_ok-other.other c.requires.trial c.in_ok-other.ensures.settles
