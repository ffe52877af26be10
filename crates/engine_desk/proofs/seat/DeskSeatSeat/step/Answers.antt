use Rattle.std.proofs.Common.{ℕ, sym, ap, ◌∙◌, subst}
use Rattle.std.specs.Prelude.{None}
use Rattle.session_events.specs.Seats.{IsIn, Sees, Steps, Refuses}
use Rattle.kak_engine.specs.Steps.{given_by, crowded_by, parting_by}
use Rattle.kak_engine.proofs.SeatingLemmas.{given-meaning}
use Rattle.engine_desk.specs.Sitting.{DeskSeated, desk_seat_of, missed_behind}
use Rattle.engine_desk.proofs.SeatLemmas.{at_desk, seat-steps, desk-taken, refused-sees, refused-stays}
use Rattle.engine_desk.proofs.RefusalLemmas.{seat-refused, desk-refused}
use Rattle.engine_desk.proofs.seat.DeskSeatSeat.step.Goals as goal

pub invariant_of-self : goal.invariant_of-self
invariant_of-self g c = desk-taken c.self.inside.desk.now c.self.inside.pass c.step.new.pass c.self.inside.first.value.seen c.self.inside.told c.args.event.now c.in-Ok.output c.misses.result c.self.invariant c.in-Ok.ensures.same c.in-Ok.ensures.ok (c.misses.ensures ∙ ap (λ k. missed_behind k) c.kind_of-kind.ensures)

pub invariant_of-self-in-Err : goal.invariant_of-self-in-Err
invariant_of-self-in-Err g c = desk-refused c.self.inside.desk.now c.self.inside.pass c.step.new.pass c.self.inside.first.value.seen c.self.inside.told c.told_by-self-inside.result c.args.event.now c.in-Err.fault c.seen.result c.self.invariant c.in-Err.ensures.same c.in-Err.ensures.fault c.seen.ensures c.told_by-self-inside.ensures

pub returns-in-Ok-clause-meaning : goal.returns-in-Ok-clause-meaning
returns-in-Ok-clause-meaning g c = given-meaning

pub returns-in-Err-clause-meaning : goal.returns-in-Err-clause-meaning
returns-in-Err-clause-meaning g c = given-meaning

pub returns-in-Ok-clause-ok : goal.returns-in-Ok-clause-ok
returns-in-Ok-clause-ok g c =
    let b = c.self.inside.pass in let a = c.step.new.pass in let home = c.self.inside.desk.now in let told = c.self.inside.told in
    subst (λ (s : DeskSeated). Steps given_by (desk_seat_of s) (at_desk home a told) c.args.event.now c.in-Ok.output) c.self.view_is (seat-steps home b a told told c.args.event.now c.in-Ok.output c.in-Ok.ensures.ok)

pub returns-in-Err-clause-stays : goal.returns-in-Err-clause-stays
returns-in-Err-clause-stays g c =
    let b = c.self.inside.pass in let a = c.step.new.pass in let home = c.self.inside.desk.now in let told = c.told_by-self-inside.result in
    subst (λ (s : DeskSeated). IsIn (desk_seat_of s) → IsIn (at_desk home a told)) c.self.view_is (refused-stays home b a c.self.inside.told told c.args.event.now c.in-Err.fault c.in-Err.ensures.fault c.in-Err.ensures.same.number)

pub returns-in-Err-clause-err : goal.returns-in-Err-clause-err
returns-in-Err-clause-err g c =
    let b = c.self.inside.pass in let a = c.step.new.pass in let home = c.self.inside.desk.now in let told = c.told_by-self-inside.result in
    subst (λ (s : DeskSeated). Sees given_by (desk_seat_of s) (at_desk home a told)) c.self.view_is (refused-sees home b a c.self.inside.told told c.args.event.now c.in-Err.fault c.in-Err.ensures.fault)

pub returns-in-Err-clause-why : goal.returns-in-Err-clause-why
returns-in-Err-clause-why g c =
    let b = c.self.inside.pass in let a = c.step.new.pass in let home = c.self.inside.desk.now in let told = c.told_by-self-inside.result in
    subst (λ (n : ℕ). Refuses crowded_by parting_by c.in-Err.fault (record { number = n; limit = home.frame.limit; mark = told; seen = a.seen; others = None }) c.args.event.now) (sym c.in-Err.ensures.same.number)
    (seat-refused home b a c.args.event.now c.in-Err.fault c.self.inside.told told c.seen.result c.in-Err.ensures.fault c.self.invariant.met c.seen.ensures c.told_by-self-inside.ensures).why
