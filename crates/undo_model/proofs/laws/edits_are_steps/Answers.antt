use Rattle.std.proofs.Common.{length}
use Rattle.undo_model.proofs.EditLemmas.{edit-steps}
use Rattle.undo_model.proofs.laws.edits_are_steps.Goals as goal

pub returns : goal.returns
returns c = record { are_steps = λ text splices h k small. edit-steps (length text) text 0 splices h k small }
