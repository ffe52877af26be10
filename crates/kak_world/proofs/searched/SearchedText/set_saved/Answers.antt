use Rattle.std.proofs.Common.{ap, sym, subst, ◌∙◌}
use Rattle.undo_model.specs.Stories.{Story}
use Rattle.undo_model.proofs.StoryLemmas.{committed-text}
use Rattle.regex_select.specs.Known.{AreMatchesIn}
use Rattle.kak_world.proofs.searched.SearchedText.set_saved.Goals as goal

pub invariant_of-self : goal.invariant_of-self
invariant_of-self c = subst (λ t. AreMatchesIn t c.self.inside.known) (sym (ap (λ (s : Story). s.text) c.set_saved.ensures ∙ committed-text c.self.inside.store)) c.self.invariant
