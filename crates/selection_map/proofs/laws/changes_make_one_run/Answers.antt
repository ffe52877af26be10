use Rattle.selection_map.proofs.OneRunLemmas.{rising-run, falling-run}
use Rattle.selection_map.proofs.laws.changes_make_one_run.Goals as goal

pub returns : goal.returns
returns c = record { rising = rising-run; falling = falling-run }
