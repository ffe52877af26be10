use Rattle.std.proofs.Common.{ap, sym, subst, ◌∙◌}
use Rattle.selection_set.specs.Held.{selected, IsHeld}
use Rattle.list_shelf.specs.declared.holder.Holder.TheVariants.{Of}
use Rattle.kak_world.specs.Flat.{Buffer, has_list, list_on, sels_of, list_of, text_of}
use Rattle.kak_world.proofs.WorldLaws.{acts_joined, acts_turned, joined_list}
use Rattle.kak_world.proofs.world.World.sels.Goals as goal

pub shown-requires : goal.shown-requires
shown-requires g c = acts_joined c.args.who c.args.self.now.flat c.requires

pub sels-requires-clause-list : goal.sels-requires-clause-list
sels-requires-clause-list g c = ap (has_list (Of c.args.who)) c.shown.ensures.seen ∙ joined_list c.args.who c.args.self.now.flat (acts_joined c.args.who c.args.self.now.flat c.requires)

pub sels-requires-clause-up : goal.sels-requires-clause-up
sels-requires-clause-up g c = c.shown.ensures.up (acts_turned c.args.who c.args.self.now.flat c.requires)

pub returns-clause-sels : goal.returns-clause-sels
unfolding sels_of list_of text_of
returns-clause-sels g c = sym (ap (λ (b : Buffer). (list_on (Of c.args.who) b).sels) c.shown.ensures.seen) ∙ c.sels.ensures.sels ∙ ap (λ (b : Buffer). selected b.story.text c.sels.result.now) c.shown.ensures.seen

pub returns-clause-held : goal.returns-clause-held
unfolding text_of
returns-clause-held g c = subst (λ (b : Buffer). IsHeld b.story.text c.sels.result.now) c.shown.ensures.seen c.sels.ensures.held
