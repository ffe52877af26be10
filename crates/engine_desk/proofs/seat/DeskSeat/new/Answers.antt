use Rattle.std.proofs.Common.{List, sym, ap, subst}
use Rattle.std.specs.Prelude.{None}
use Rattle.session_desk.specs.Tokens.{PassView}
use Rattle.session_events.specs.declared.event.Entry.{Entry}
use Rattle.engine_desk.specs.Sharing.{Frame}
use Rattle.engine_desk.specs.Sitting.{IsAtDesk}
use Rattle.engine_desk.proofs.SeatLemmas.{desk_new}
use Rattle.engine_desk.proofs.seat.DeskSeat.new.Goals as goal

pub invariant_of-result : goal.invariant_of-result
invariant_of-result g c =
    subst (λ (first : List Entry). IsAtDesk c.args.desk.now c.args.pass first None None) (ap (λ (p : PassView Entry Frame). p.seen) (sym c.of-first.ensures))
    (desk_new c.args.desk.now c.args.pass c.requires)
