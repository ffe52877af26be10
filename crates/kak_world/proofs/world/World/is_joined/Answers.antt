use Rattle.std.proofs.Common.{ap, sym, ◌∙◌}
use Rattle.std.specs.Prelude.{◌&&◌}
use Rattle.list_shelf.specs.declared.holder.Holder.TheVariants.{Of}
use Rattle.kak_world.specs.Flat.{is_there, has_list, buffer_at}
use Rattle.kak_world.proofs.WorldLemmas.{joined-not, joined-test}
use Rattle.kak_world.specs.Seen.{all_seen}
use Rattle.kak_world.proofs.world.World.is_joined.Goals as goal

pub returns-then-not-is_here : goal.returns-then-not-is_here
returns-then-not-is_here g c = joined-not c.args.who _ _ _ _ c.self.view_is (sym c.is_here.ensures ∙ c.if-not-is_here.true)

pub returns : goal.returns
returns g c =
    c.has_list_at.ensures
    ∙ ap (λ bs. is_there c.client-client.result.now.shown (all_seen bs) && has_list (Of c.args.who) (buffer_at c.client-client.result.now.shown (all_seen bs))) c.as_slice.ensures.value
    ∙ joined-test c.args.who _ _ _ _ _ c.self.view_is (sym c.is_here.ensures ∙ c.if-not-is_here.false) c.client-client.ensures
