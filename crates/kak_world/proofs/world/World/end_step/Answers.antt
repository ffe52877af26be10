use Rattle.std.proofs.Common.{ap}
use Rattle.kak_world.specs.declared.world.Stepping.{Stepping}
use Rattle.kak_world.proofs.StandingLemmas.{stands-nobody}
use Rattle.kak_world.proofs.world.World.end_step.Goals as goal

pub invariant_of-self : goal.invariant_of-self
invariant_of-self g c = stands-nobody _ _ _ _ _ (ap (λ (s : Stepping). s.turn) c.end.ensures) c.self.invariant
