use Rattle.std.proofs.Common.{ap, sym, ◌∙◌}
use Rattle.undo_model.specs.Stories.{Story}
use Rattle.undo_model.proofs.StoryLemmas.{move-leads, moved-there, moved-keeps}
use Rattle.undo_model.proofs.laws.moves_lead.Goals as goal

pub returns : goal.returns
returns c = record {
  are_steps = λ n s h lt. (move-leads n s h lt).steps;
  lead = λ n s h lt. (move-leads n s h lt).lead ∙ sym (ap (λ (x : Story). x.text) (moved-there n s lt));
  arrive = λ n s h lt. ap (λ (x : Story). x.current) (moved-there n s lt);
  bring_its_text = λ n s h lt. ap (λ (x : Story). x.text) (moved-there n s lt);
  keep_texts = moved-keeps;
}
