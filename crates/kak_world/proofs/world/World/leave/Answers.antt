use Rattle.std.proofs.Common.{◌∙◌}
use Rattle.kak_world.proofs.WorldLemmas.{went, has-mapped}
use Rattle.kak_world.proofs.StandingLemmas.{stands-pending}
use Rattle.kak_world.proofs.StoredLemmas.{in-step, follows-own}
use Rattle.kak_world.proofs.world.World.leave.Goals as goal

pub invariant_of-self : goal.invariant_of-self
invariant_of-self g c = stands-pending _ _ _ (has-mapped _ _ _ c.self.invariant.has (c.bring_turn_up.ensures.seen ∙ c.leave_buffers.ensures.seen)) c.bring_turn_up.ensures.up
    (in-step _ _ _ _ _ (follows-own _ c.args.who _ _ _ _ c.requires c.leave_buffers.ensures.leaves c.bring_turn_up.ensures.leaves) c.self.invariant.step)

pub returns : goal.returns
returns g c = went c.args.who _ _ _ _ _ _ _ _ _ c.self.view_is (c.bring_turn_up.ensures.seen ∙ c.leave_buffers.ensures.seen) c.remove.ensures c.clear_client.ensures c.clear_client-2.ensures c.clear_client-3.ensures
