use Rattle.std.proofs.Common.{◌≡◌}
use Rattle.session_desk.proofs.turns.take_turn.Given as goal

-- an exchange that did not find the turn free leaves the seat as it was
abbrev pub invariant-loop : goal.invariant-loop
invariant-loop g l = (l.seat.table_id ≡ l.initial.seat.table_id) × (l.seat.me ≡ l.initial.seat.me)
