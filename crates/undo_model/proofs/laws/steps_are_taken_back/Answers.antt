use Rattle.undo_model.proofs.StepLemmas.{undoing-text, undoing-steps}
use Rattle.undo_model.proofs.laws.steps_are_taken_back.Goals as goal

pub returns : goal.returns
returns c = record { old_text = undoing-text; are_steps = undoing-steps }
