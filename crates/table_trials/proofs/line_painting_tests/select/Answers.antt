use Rattle.selection_set.proofs.HeldLemmas.{settled-held}
use Rattle.table_trials.proofs.line_painting_tests.select.Goals as goal

pub returns : goal.returns
returns g c = settled-held _ _ _ _ (c.in_ok-of_pairs.ensures.settles _ c.requires)
