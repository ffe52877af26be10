use Rattle.engine_desk.proofs.WorldLemmas.{new-keeps}
use Rattle.engine_desk.proofs.shared.SharedEngine.new.Goals as goal

pub invariant_of-result : goal.invariant_of-result
invariant_of-result g c =
    new-keeps _ c.args.limit c.in_ok-engine.engine c.of-first.result.value c.in-Ok.here.items _ c.in_ok-engine.ensures.new c.of-first.ensures c.in-Ok.ensures.items c.in-Ok.ensures.capacity
