use Rattle.edit_ops.proofs.CrowdingLemmas.{puts-in_order}
use Rattle.edit_ops.proofs.AligningLemmas.{alignments-in_order}
use Rattle.edit_ops.proofs.laws.held_edits_are_in_order.Goals as goal

pub returns : goal.returns
returns c = record { putting = puts-in_order; aligning = alignments-in_order }
