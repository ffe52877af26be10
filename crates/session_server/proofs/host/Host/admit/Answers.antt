use Rattle.session_server.proofs.SessionLemmas.{ready-next}
use Rattle.session_server.proofs.host.Host.admit.Goals as goal

pub returns-clause-ready : goal.returns-clause-ready
returns-clause-ready g c = ready-next _ _ _ _ _ _ c.self.invariant c.admit.ensures.pass c.in-Ok.ensures c.requires
