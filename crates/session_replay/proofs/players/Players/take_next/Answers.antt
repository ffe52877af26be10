use Rattle.std.proofs.Common.{[], ◌∷◌, ◌++◌}
use Rattle.std.proofs.lemmas.Result.{err_from_is_err_and}
use Rattle.session_turns.specs.Growth.{Over}
use Rattle.session_replay.proofs.BoxLemmas.{shown-there}
use Rattle.session_replay.proofs.ClientLemmas.{some-line}
use Rattle.session_replay.proofs.LeavingLemmas.{leaves-left}
use Rattle.session_replay.proofs.PlayersLemmas.{concerns-then, board-concerns, client-off, stopped-lost, here-told, here-kind, over-told}
use Rattle.session_replay.proofs.players.Players.take_next.Goals as goal

pub returns-in_err-dismiss-clause-alone : goal.returns-in_err-dismiss-clause-alone
returns-in_err-dismiss-clause-alone g c = concerns-then _ c.args.who _ _ _ (board-concerns _ c.args.who _ _ _ c.args.self.now.board.seats.items _ c.args.self.now.clients.items c.in_ok-play.ensures.grows c.in_ok-play.ensures.only.others) c.dismiss.ensures.alone

pub returns-in_err-dismiss-clause-takes : goal.returns-in_err-dismiss-clause-takes
returns-in_err-dismiss-clause-takes g c =
    let p = err_from_is_err_and c.from_residual-in_err-dismiss.result c.from_residual-in_err-dismiss.ensures.1 in
    rw (p.1, p.2) (λ kind lines w. stopped-lost _ _ kind c.args.who _ (lines ++ c.args.line.now ∷ []) _ _ (c.in_err-dismiss.ensures.stays c.args.who) (shown-there _ _ c.in_ok-play.ensures.only.taken)
    (here-kind _ _ kind _ _ lines _ _ c.in_ok-play.ensures.only.kind w) w.report
    (c.in_err-dismiss.ensures.lost Over (lines ++ c.args.line.now ∷ []) _ (over-told _ _ _ _ _ _ c.if-branch.true (c.in_ok-play.ensures.got lines (here-told _ _ kind _ _ lines _ w)))))

pub returns-then-branch-clause-alone : goal.returns-then-branch-clause-alone
returns-then-branch-clause-alone g c = concerns-then _ c.args.who _ _ _ (board-concerns _ c.args.who _ _ _ c.args.self.now.board.seats.items _ c.args.self.now.clients.items c.in_ok-play.ensures.grows c.in_ok-play.ensures.only.others) c.dismiss.ensures.alone

pub returns-then-branch-clause-takes : goal.returns-then-branch-clause-takes
returns-then-branch-clause-takes g c = λ kind lines w.
    client-off _ kind c.args.who _ (lines ++ c.args.line.now ∷ []) _ _ c.in_ok-dismiss.ensures.off (shown-there _ _ c.in_ok-play.ensures.only.taken)
    (here-kind _ _ kind _ _ lines _ _ c.in_ok-play.ensures.only.kind w) (some-line lines c.args.line.now)
    (leaves-left _ Over c.args.who _ _ (lines ++ c.args.line.now ∷ []) _ c.in_ok-dismiss.ensures.leaves (over-told _ _ _ _ _ _ c.if-branch.true (c.in_ok-play.ensures.got lines (here-told _ _ kind _ _ lines _ w))))
