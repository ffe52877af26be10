use Rattle.kak_app.proofs.RunLemmas.{came-first, nothing-served}
use Rattle.kak_app.proofs.program.attend.Goals as goal

pub serve-requires-clause-new : goal.serve-requires-clause-new
serve-requires-clause-new g c = came-first _ _ _ c.in-Ok.came c.requires c.step.ensures.same c.in-Ok.ensures.ok

pub returns-in-Err-clause-served : goal.returns-in-Err-clause-served
returns-in-Err-clause-served g c = nothing-served _ _ _ _ _ _ c.requires c.in-Err.ensures.err
