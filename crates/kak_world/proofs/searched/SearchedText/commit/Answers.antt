use Rattle.std.proofs.Common.{ap, sym, subst, ◌∙◌}
use Rattle.undo_model.specs.Stories.{Story}
use Rattle.regex_select.specs.Known.{AreMatchesIn}
use Rattle.kak_world.proofs.WorldLaws.{committed_by-text}
use Rattle.kak_world.proofs.searched.SearchedText.commit.Goals as goal

pub invariant_of-self : goal.invariant_of-self
invariant_of-self c = subst (λ t. AreMatchesIn t c.self.inside.known) (sym (ap (λ (s : Story). s.text) c.commit.ensures ∙ committed_by-text c.args.who c.self.inside.store)) c.self.invariant
