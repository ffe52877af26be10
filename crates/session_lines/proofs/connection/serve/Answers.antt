use Rattle.std.proofs.Common.{refl, sym, ◌∙◌}
use Rattle.std.proofs.lemmas.Result.{err_from_is_err_and}
use Rattle.session_lines.proofs.StayingLemmas.{unseen-same, causes-later, loss-causes, unwritten-causes}
use Rattle.session_lines.proofs.ReadingLemmas.{fault-later, fault-still}
use Rattle.session_lines.proofs.ConnectionLemmas.{all-left, leaving-lost, unwritten-served}
use Rattle.session_lines.proofs.connection.serve.Goals as goal

pub returns-then-is_unwritten-clause-served : goal.returns-then-is_unwritten-clause-served
returns-then-is_unwritten-clause-served g c =
    (unwritten-served c.play_connection-played.result _ _ _ _ _ _ _ _ (sym c.is_unwritten.ensures ∙ c.if-is_unwritten.true) refl (unseen-same c.play_connection-played.ensures.stays.same) c.play_connection-played.ensures.plays).0

pub returns-in_err-leave-clause-served : goal.returns-in_err-leave-clause-served
returns-in_err-leave-clause-served g c =
    let p = err_from_is_err_and c.from_residual.result c.from_residual.ensures.1 in
    rw (p.1, p.2) ((leaving-lost g.S.Seat.parting _ _ _ _ _ _ _ _ _ c.play_connection-played.result _ refl (unseen-same c.play_connection-played.ensures.stays.same) (sym c.is_unwritten.ensures ∙ c.if-is_unwritten.false) c.play_connection-played.ensures.plays c.in_err-leave.ensures.leaves).0)

pub returns-in_err-leave-clause-fault : goal.returns-in_err-leave-clause-fault
returns-in_err-leave-clause-fault g c =
    let p = err_from_is_err_and c.from_residual.result c.from_residual.ensures.1 in
    rw (p.1, p.2) (fault-later g.S.Seat.parting c.play_connection-played.result _ _ _ _ c.in_err-leave.ensures.leaves.1 c.play_connection-played.ensures.fault)

pub returns-in_err-leave-clause-cause : goal.returns-in_err-leave-clause-cause
returns-in_err-leave-clause-cause g c =
    let p = err_from_is_err_and c.from_residual.result c.from_residual.ensures.1 in
    rw (p.1, p.2) (loss-causes g.S.Seat.parting c.play_connection-played.result _ _ _ _ _ (sym c.is_unwritten.ensures ∙ c.if-is_unwritten.false) c.play_connection-played.ensures.cause c.in_err-leave.ensures.leaves.1)

pub returns-clause-served : goal.returns-clause-served
returns-clause-served g c = (all-left c.play_connection-played.result _ _ _ _ _ _ _ _ _ refl refl (unseen-same c.play_connection-played.ensures.stays.same) (sym c.is_unwritten.ensures ∙ c.if-is_unwritten.false) c.play_connection-played.ensures.plays c.in_ok-leave.ensures.leaves).0

pub returns-clause-cause : goal.returns-clause-cause
returns-clause-cause g c = causes-later c.play_connection-played.result _ _ _ _ c.leave.ensures.same c.in_ok-leave.ensures.leaves c.leave.ensures.marked c.play_connection-played.ensures.cause

pub returns-then-is_unwritten-clause-cause : goal.returns-then-is_unwritten-clause-cause
returns-then-is_unwritten-clause-cause g c = unwritten-causes c.play_connection-played.result _ _ _ (sym c.is_unwritten.ensures ∙ c.if-is_unwritten.true) c.play_connection-played.ensures.cause

pub returns-clause-fault : goal.returns-clause-fault
returns-clause-fault g c = fault-still g.S.Seat.parting c.play_connection-played.result _ _ _ c.play_connection-played.ensures.fault

pub returns-then-is_unwritten-clause-fault : goal.returns-then-is_unwritten-clause-fault
returns-then-is_unwritten-clause-fault g c = fault-still g.S.Seat.parting c.play_connection-played.result _ _ _ c.play_connection-played.ensures.fault
