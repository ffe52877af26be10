use Rattle.std.proofs.Common.{refl}
use Rattle.kak_engine.proofs.RunLemmas.{parts-or-stays}
use Rattle.kak_engine.proofs.engine.Engine.step.Goals as goal

pub returns-in-Err-clause-answered : goal.returns-in-Err-clause-answered
returns-in-Err-clause-answered g c = λ n. (refl, parts-or-stays _ _ c.in-Err.ensures.leaves)
