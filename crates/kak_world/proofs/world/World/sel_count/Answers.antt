use Rattle.std.proofs.Common.{length, ap, ◌∙◌}
use Rattle.list_shelf.specs.declared.holder.Holder.TheVariants.{Of}
use Rattle.kak_world.specs.Flat.{Buffer, has_list, list_on, list_of, sels_of}
use Rattle.kak_world.proofs.AnswerLemmas.{if-ok}
use Rattle.kak_world.proofs.WorldLaws.{joined_list}
use Rattle.kak_world.proofs.world.World.sel_count.Goals as goal

pub sel_count-requires : goal.sel_count-requires
sel_count-requires g c = ap (has_list (Of c.args.who)) c.shown.ensures.seen ∙ joined_list c.args.who c.args.self.now.flat c.requires

pub returns : goal.returns
unfolding sels_of list_of
returns g c = if-ok _ _ c.sel_count.result c.sel_count.ensures (λ count e. e ∙ ap (λ (b : Buffer). length (list_on (Of c.args.who) b).sels.list) c.shown.ensures.seen)
