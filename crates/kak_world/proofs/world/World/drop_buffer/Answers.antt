use Rattle.std.proofs.Common.{ap, ◌∙◌}
use Rattle.kak_world.specs.Dropping.{buffers_dropped}
use Rattle.kak_world.proofs.DroppingLemmas.{has-dropped, now-dropped}
use Rattle.kak_world.proofs.StayingLemmas.{drop-keeps}
use Rattle.kak_world.specs.Seen.{all_seen}
use Rattle.kak_world.proofs.StandingLemmas.{stands-pending}
use Rattle.kak_world.proofs.StoredLemmas.{in-step, follows-then}
use Rattle.list_shelf.specs.declared.holder.Holder.TheVariants.{Of}
use Rattle.kak_world.proofs.world.World.drop_buffer.Goals as goal

pub invariant_of-self-2 : goal.invariant_of-self-2
invariant_of-self-2 g c = stands-pending _ _ _
    (has-dropped c.args.n c.as_slice.result.now (all_seen c.self.inside.buffers.items) _ (c.bring_turn_up.ensures.seen ∙ c.in_ok-to.ensures.ok) c.self.invariant.has)
    c.bring_turn_up.ensures.up
    (in-step _ _ _ _ _ (follows-then _ _ _ _ _ (λ k. c.in_ok-to.ensures.leaves (Of k)) c.bring_turn_up.ensures.leaves) c.self.invariant.step)

pub returns-clause-ok : goal.returns-clause-ok
returns-clause-ok g c =
    now-dropped c.args.n c.in_ok-to.to _ _ _ _ _ _ _ _ _ c.self.view_is
    (c.bring_turn_up.ensures.seen ∙ c.in_ok-to.ensures.ok ∙ ap (λ cs. buffers_dropped c.args.n cs (all_seen c.self.inside.buffers.items)) c.as_slice.ensures) c.in_ok-to.ensures.number c.move_on.ensures c.clear_buffer.ensures c.clear_buffer-2.ensures c.clear_buffer-3.ensures

pub returns-clause-keeps : goal.returns-clause-keeps
returns-clause-keeps g c =
    drop-keeps c.args.n _ _
    (now-dropped c.args.n c.in_ok-to.to _ _ _ _ _ _ _ _ _ c.self.view_is
    (c.bring_turn_up.ensures.seen ∙ c.in_ok-to.ensures.ok ∙ ap (λ cs. buffers_dropped c.args.n cs (all_seen c.self.inside.buffers.items)) c.as_slice.ensures) c.in_ok-to.ensures.number c.move_on.ensures c.clear_buffer.ensures c.clear_buffer-2.ensures c.clear_buffer-3.ensures)
