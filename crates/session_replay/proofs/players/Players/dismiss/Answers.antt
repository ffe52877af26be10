use Rattle.std.proofs.Common.{refl}
use Rattle.std.proofs.lemmas.Result.{err_from_is_err_and}
use Rattle.session_replay.proofs.PlayersLemmas.{held-off, held-others, lost-stands}
use Rattle.session_replay.proofs.players.Players.dismiss.Goals as goal

pub returns-clause-off : goal.returns-clause-off
returns-clause-off g c = held-off _ c.args.self.now.board.seats.items c.args.self.now.clients.items c.args.who _ c.requires.inside refl c.in_ok-report.ensures.reports

pub returns-clause-alone : goal.returns-clause-alone
returns-clause-alone g c = record {
  grows = c.let_go.ensures.grows;
  others = held-others _ c.args.self.now.board.seats.items c.args.self.now.board.seats.items c.args.self.now.clients.items c.args.who _ (λ other differs. refl);
}

pub returns-in_err-report-clause-lost : goal.returns-in_err-report-clause-lost
returns-in_err-report-clause-lost g c =
    let p = err_from_is_err_and c.from_residual.result c.from_residual.ensures.1 in
    rw (p.1, p.2) (λ how lines told got. lost-stands g.S.Seat.parting _ how _ (g.S.Seat.seated c.let_go.new.seats) c.args.who _ lines told (c.in_err-report.ensures.still how lines told got))
