use Rattle.kak_world.proofs.StandingLemmas.{stands-entered}
use Rattle.kak_world.proofs.WorldLemmas.{entered-flat}
use Rattle.kak_world.proofs.StoredLemmas.{follows-entered}
use Rattle.kak_world.proofs.world.World.enter.Goals as goal

pub invariant_of-self : goal.invariant_of-self
invariant_of-self g c = stands-entered _ _ _ _ _ _ c.bring_turn_up.ensures.seen c.bring_turn_up.ensures.up (follows-entered _ c.args.who _ _ _ c.requires.own c.bring_turn_up.ensures.leaves) c.bring_turn_up.ensures.calm c.self.invariant

pub returns : goal.returns
returns g c = entered-flat c.args.who _ _ _ _ _ c.self.view_is c.bring_turn_up.ensures.seen
