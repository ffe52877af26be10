use Rattle.std.proofs.Common.{inl, inr}
use Rattle.std.proofs.lemmas.Result.{err_from_is_err_and}
use Rattle.session_replay.specs.Settings.{setting}
use Rattle.session_replay.proofs.PlayingLemmas.{gone-grows, sees-grow, sees-got, gone-left, gone-leaves}
use Rattle.session_replay.proofs.playing.let_go.Goals as goal

pub returns-in_err-leave-clause-grows : goal.returns-in_err-leave-clause-grows
returns-in_err-leave-clause-grows g c = sees-grow _ _ (g.S.Seat.seated c.args.seats.now) _ _ c.turn_to.ensures.turned c.leave.ensures.same (g.met.S.Seats.alone c.leave.new.seat) c.in_err-leave.ensures.leaves.0

pub returns-in_err-leave-clause-still : goal.returns-in_err-leave-clause-still
returns-in_err-leave-clause-still g c =
    let p = err_from_is_err_and c.from_residual.result c.from_residual.ensures.1 in
    rw (p.1, p.2) (λ how lines told got. inr (
      c.in_err-leave.ensures.leaves.1,
      sees-got _ _ _ (g.S.Seat.seated c.args.seats.now) _ _ lines told c.turn_to.ensures.turned c.in_err-leave.ensures.leaves.0 got,
    ))

pub returns-in_err-report-clause-grows : goal.returns-in_err-report-clause-grows
returns-in_err-report-clause-grows g c = gone-grows _ _ (g.S.Seat.seated c.args.seats.now) _ _ c.turn_to.ensures.turned c.leave.ensures.same (g.met.S.Seats.alone c.leave.new.seat) c.in_ok-leave.ensures.leaves

pub returns-in_err-report-clause-still : goal.returns-in_err-report-clause-still
returns-in_err-report-clause-still g c =
    let p = err_from_is_err_and c.from_residual-in_err-report.result c.from_residual-in_err-report.ensures.1 in
    rw p.1 (λ how lines told got. inl (
      p.2,
      gone-left _ how _ (g.S.Seat.seated c.args.seats.now) _ _ lines told c.turn_to.ensures.turned c.in_ok-leave.ensures.leaves got,
    ))

pub returns-clause-grows : goal.returns-clause-grows
returns-clause-grows g c = gone-grows _ _ (g.S.Seat.seated c.args.seats.now) _ _ c.turn_to.ensures.turned c.leave.ensures.same (g.met.S.Seats.alone c.leave.new.seat) c.in_ok-leave.ensures.leaves

pub returns-clause-leaves : goal.returns-clause-leaves
returns-clause-leaves g c = gone-leaves (setting g.S.Seat.gives g.Q.Reader.reads) _ (g.S.Seat.seated c.args.seats.now) _ _ c.turn_to.ensures.turned c.leave.ensures.same (g.met.S.Seats.alone c.leave.new.seat) c.in_ok-leave.ensures.leaves
