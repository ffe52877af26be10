use Rattle.std.proofs.Common.{sym, ◌∙◌, subst}
use Rattle.session_events.specs.Seats.{IsIn, Sees}
use Rattle.kak_engine.specs.Steps.{given_by}
use Rattle.engine_desk.specs.Sitting.{DeskSeated, desk_seat_of}
use Rattle.engine_desk.proofs.SeatLemmas.{at_desk, sees-twice, seat-sees, seat-stays}
use Rattle.engine_desk.proofs.seat.DeskSeatLiveSeat.look.Goals as goal

pub returns-2-clause-sees : goal.returns-2-clause-sees
returns-2-clause-sees g c =
    let b = c.self.inside.pass in let m = c.glance-count.new.pass in let a = c.look-glimpse.new.pass in let home = c.self.inside.desk.now in let told = c.look-glimpse.result.broken in
    subst (λ (s : DeskSeated). Sees given_by (desk_seat_of s) (at_desk home a told)) c.self.view_is
    (seat-sees home b a c.self.inside.told told (sees-twice b m a (sym c.glance-count.ensures.same.number) c.glance-count.ensures.sees c.look-glimpse.ensures.sees))

pub returns-2-clause-stays : goal.returns-2-clause-stays
returns-2-clause-stays g c =
    let b = c.self.inside.pass in let m = c.glance-count.new.pass in let a = c.look-glimpse.new.pass in let home = c.self.inside.desk.now in let told = c.look-glimpse.result.broken in
    subst (λ (s : DeskSeated). IsIn (desk_seat_of s) → IsIn (at_desk home a told)) c.self.view_is
    (seat-stays home b a c.self.inside.told told (sees-twice b m a (sym c.glance-count.ensures.same.number) c.glance-count.ensures.sees c.look-glimpse.ensures.sees) (c.look-glimpse.ensures.same.number ∙ c.glance-count.ensures.same.number))
