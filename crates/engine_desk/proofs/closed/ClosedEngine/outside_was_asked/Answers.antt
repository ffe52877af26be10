use Rattle.std.proofs.Common.{subst}
use Rattle.engine_desk.specs.Sharing.{Shared, WasAskedJustThat, IsRescuedWhereBroken}
use Rattle.engine_desk.proofs.closed.ClosedEngine.outside_was_asked.Goals as goal

pub returns-clause-asked : goal.returns-clause-asked
returns-clause-asked g c = subst (λ (s : Shared). WasAskedJustThat s) c.self.view_is c.self.invariant.0

pub returns-clause-rescued : goal.returns-clause-rescued
returns-clause-rescued g c = subst (λ (s : Shared). IsRescuedWhereBroken s) c.self.view_is c.self.invariant.1
