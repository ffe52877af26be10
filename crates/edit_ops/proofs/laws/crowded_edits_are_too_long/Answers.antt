use Rattle.edit_ops.proofs.CrowdingLemmas.{crowded-long, crowded-changes}
use Rattle.edit_ops.proofs.laws.crowded_edits_are_too_long.Goals as goal

pub returns : goal.returns
returns c = record { too_long = crowded-long; make_changes = crowded-changes }
