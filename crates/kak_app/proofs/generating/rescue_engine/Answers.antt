use Rattle.std.proofs.Common.{sym, subst}
use Rattle.kak_engine.specs.Honesty.{Outside}
use Rattle.kak_engine.specs.Rescue.{Rescues}
use Rattle.kak_engine.proofs.SeatingLemmas.{loses}
use Rattle.kak_app.proofs.generating.rescue_engine.Goals as goal

pub returns-clause-lost : goal.returns-clause-lost
returns-clause-lost g c = λ first was.
    loses c.args.engine first (g.O.Outside.seen c.into_outside.result) c.rescue-tried.result was c.inside_is_run.ensures
    (subst (λ (o : Outside). Rescues c.args.engine.inside c.rescue-tried.result c.args.engine.outside o) (sym c.into_outside.ensures.outside) c.rescue-tried.ensures.rescues)
