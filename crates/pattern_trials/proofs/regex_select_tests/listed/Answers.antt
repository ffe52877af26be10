use Rattle.selection_set.proofs.HeldLemmas.{settled-held}
use Rattle.pattern_trials.proofs.regex_select_tests.listed.Goals as goal

pub returns : goal.returns
returns g c = settled-held c.args.lines.now _ c.args.main c.in_ok-of_pairs.field-0 (c.in_ok-of_pairs.ensures.settles c.args.lines.now c.requires)
