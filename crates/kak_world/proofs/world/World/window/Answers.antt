use Rattle.std.proofs.Common.{ap, ap₂, ◌∙◌}
use Rattle.window_view.specs.Sizes.{view_at}
use Rattle.list_shelf.specs.declared.holder.Holder.TheVariants.{Of}
use Rattle.kak_world.specs.declared.own.Own.{Own}
use Rattle.kak_world.specs.Flat.{Buffer, has_list, list_on, view_of, list_of}
use Rattle.kak_world.proofs.WorldLaws.{joined_list}
use Rattle.kak_world.proofs.world.World.window.Goals as goal

pub corner-requires : goal.corner-requires
corner-requires g c = ap (has_list (Of c.args.who)) c.shown.ensures.seen ∙ joined_list c.args.who c.args.self.now.flat c.requires

pub returns : goal.returns
unfolding view_of list_of
returns g c =
    c.of.ensures
    ∙ ap₂ view_at (c.corner.ensures ∙ ap (λ (b : Buffer). (list_on (Of c.args.who) b).corner) c.shown.ensures.seen) (ap (λ (o : Own). o.size) c.own-own.ensures)
