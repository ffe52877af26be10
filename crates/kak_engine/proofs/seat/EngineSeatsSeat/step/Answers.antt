use Rattle.std.proofs.Common.{refl, subst}
use Rattle.std.specs.Prelude.{IfOk}
use Rattle.session_events.specs.Seats.{IsSameSeat, Steps}
use Rattle.kak_engine.specs.Steps.{given_by}
use Rattle.kak_engine.specs.Seating.{EngineSeated, seat_of}
use Rattle.kak_engine.proofs.SeatingLemmas.{given-meaning, others-same, alone-steps, step-honest}
use Rattle.kak_engine.proofs.WhyLemmas.{alone-why}
use Rattle.kak_engine.proofs.seat.EngineSeatsSeat.step.Goals as goal

pub invariant_of-self : goal.invariant_of-self
invariant_of-self g c = step-honest _ _ c.args.event.now _ _ c.self.invariant c.step.result c.step.ensures.refused c.step.ensures.stays c.step.ensures.answered c.step.ensures.takes c.step.ensures.err c.step.ensures.left c.step.ensures.mark c.step.ensures.rescued

pub returns-clause-meaning : goal.returns-clause-meaning
returns-clause-meaning g c = given-meaning

pub returns-clause-same : goal.returns-clause-same
returns-clause-same g c =
    let now : EngineSeated = record { engine = c.step.new.self; who = c.self.inside.who; first = c.self.inside.first.value.outside } in
    subst (λ (s : EngineSeated). IsSameSeat (seat_of s) (seat_of now)) c.self.view_is (record { number = refl; limit = c.step.ensures.limit; others = others-same _ c.args.event.now _ _ c.step.result c.step.ensures.takes c.step.ensures.err })

pub returns-clause-ok : goal.returns-clause-ok
returns-clause-ok g c =
    let now : EngineSeated = record { engine = c.step.new.self; who = c.self.inside.who; first = c.self.inside.first.value.outside } in
    subst (λ (s : EngineSeated). IfOk c.step.result (λ output. Steps given_by (seat_of s) (seat_of now) c.args.event.now output)) c.self.view_is (alone-steps _ c.args.event.now _ _ c.step.result c.self.inside.first.value.outside c.step.ensures.takes)

pub returns-clause-why : goal.returns-clause-why
returns-clause-why g c = alone-why c.self.inside.who c.args.event.now c.self.inside.engine c.step.new.self c.step.result c.step.ensures.refused c.step.ensures.answered c.step.ensures.err c.step.ensures.mark c.step.ensures.limit
