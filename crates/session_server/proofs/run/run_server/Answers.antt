use Rattle.session_server.proofs.SessionLemmas.{never-usage}
use Rattle.session_server.proofs.run.run_server.Goals as goal

pub returns-clause-taken : goal.returns-clause-taken
returns-clause-taken g c = λ call usage. never-usage c.serve-status.result.0 c.serve-status.result.1.engine _ c.serve-status.ensures.engine c.serve-status.ensures.cause usage
