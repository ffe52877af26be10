use Rattle.undo_model.proofs.StoryLemmas.{moved-heir, undone-heir, redone-heir, redone-current, redone-text}
use Rattle.undo_model.proofs.laws.heirs_are_remembered.Goals as goal

pub returns : goal.returns
returns c = record { by_each_step = moved-heir; by_undo = undone-heir; by_redo = redone-heir; redo_goes_back = redone-current; redo_brings_back = redone-text }
