use Rattle.std.proofs.Common.{sym}
use Rattle.std.proofs.lemmas.Result.{err_from_is_err_and}
use Rattle.session_lines.proofs.StayingLemmas.{unseen-same}
use Rattle.link_lines.proofs.DrawingLemmas.{opening-draws, draws-as}
use Rattle.link_lines.proofs.HeardLemmas.{opening-over-stopped, opening-over-left, opened-over}
use Rattle.link_lines.proofs.link_playing.play_link.Goals as goal

pub returns-in_err-open-clause-plays : goal.returns-in_err-open-clause-plays
returns-in_err-open-clause-plays g c =
    let p = err_from_is_err_and c.from_residual.result c.from_residual.ensures.1 in
    rw (p.1, p.2) (opening-over-stopped _ _ _ _ _ _ c.open.ensures.heard (c.in_err-open.ensures.serves g.Q.Reader.reads))

pub returns-then-branch-clause-plays : goal.returns-then-branch-clause-plays
returns-then-branch-clause-plays g c = opening-over-left _ _ _ _ _ _ c.if-branch.true c.open.ensures.heard (c.in_ok-open.ensures.serves g.Q.Reader.reads)

pub returns-clause-plays : goal.returns-clause-plays
returns-clause-plays g c = opened-over c.play_turns.result _ _ _ _ _ _ _ _ c.if-branch.false (unseen-same c.open.ensures.stays.same) c.open.ensures.heard (c.in_ok-open.ensures.serves g.Q.Reader.reads) (c.play_turns.ensures.plays c.args.keys.now)

pub returns-in_err-open-clause-drawn : goal.returns-in_err-open-clause-drawn
returns-in_err-open-clause-drawn g c = opening-draws _ _ _ (g.S.Seat.seated c.args.seat.now) _ _ _ _ (c.in_err-open.ensures.serves g.Q.Reader.reads)

pub returns-then-branch-clause-drawn : goal.returns-then-branch-clause-drawn
returns-then-branch-clause-drawn g c = opening-draws _ _ _ (g.S.Seat.seated c.args.seat.now) _ _ _ _ (c.in_ok-open.ensures.serves g.Q.Reader.reads)

pub returns-clause-drawn : goal.returns-clause-drawn
returns-clause-drawn g c =
    let same = c.open.ensures.stays.same.number in
    draws-as _ _ _ same (c.play_turns.ensures.drawn (draws-as _ _ _ (sym same) (opening-draws _ _ _ (g.S.Seat.seated c.args.seat.now) _ _ _ _ (c.in_ok-open.ensures.serves g.Q.Reader.reads))))
