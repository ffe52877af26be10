use Rattle.std.proofs.Common.{refl}
use Rattle.kak_engine.proofs.SeatingLemmas.{closed-engine, rescued-as}
use Rattle.engine_desk.proofs.closed.ClosedEngine.of.Goals as goal

pub invariant_of-result : goal.invariant_of-result
invariant_of-result g c = (
  closed-engine c.args.engine c.rescue_if_broken.new.self c.args.first.value.outside c.requires c.rescue_if_broken.ensures,
  rescued-as c.args.engine.mark c.args.engine c.rescue_if_broken.new.self c.rescue_if_broken.ensures refl c.requires.unrescued,
)
