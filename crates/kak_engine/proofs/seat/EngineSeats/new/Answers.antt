use Rattle.std.proofs.Common.{sym, subst}
use Rattle.kak_engine.specs.Held.{HeldEngine}
use Rattle.kak_engine.specs.Seating.{WasHonest}
use Rattle.kak_engine.proofs.SeatingLemmas.{honest-first}
use Rattle.kak_engine.proofs.seat.EngineSeats.new.Goals as goal

pub invariant_of-result : goal.invariant_of-result
invariant_of-result g c =
    subst (λ (first : HeldEngine). WasHonest c.in_ok-engine.engine first.outside) (sym c.of-first.ensures)
    (subst (λ (h : HeldEngine). WasHonest h h.outside) (sym c.in_ok-engine.ensures.new) (honest-first (g.O.Outside.seen c.args.outside) c.args.limit))
