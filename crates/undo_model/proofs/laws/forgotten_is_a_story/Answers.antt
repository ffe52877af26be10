use Rattle.std.proofs.Common.{refl}
use Rattle.undo_model.proofs.MoveLemmas.{forgotten-story}
use Rattle.undo_model.proofs.laws.forgotten_is_a_story.Goals as goal

pub returns : goal.returns
returns c = record { kept = forgotten-story; modified = λ text. refl; stays_so = λ text. refl }
