use Rattle.std.proofs.lemmas.Result.{err_from_is_err_and}
use Rattle.session_lines.proofs.StayingLemmas.{unseen-same}
use Rattle.session_lines.proofs.ConnectionLemmas.{opening-stopped, opening-left, opened-played}
use Rattle.session_lines.proofs.connection.play_connection.Goals as goal

pub returns-in_err-open-clause-plays : goal.returns-in_err-open-clause-plays
returns-in_err-open-clause-plays g c =
    let p = err_from_is_err_and c.from_residual.result c.from_residual.ensures.1 in
    rw (p.1, p.2) ((opening-stopped _ _ _ _ _ _ _ _ (c.in_err-open.ensures.serves g.Q.Reader.reads)).0)

pub returns-then-branch-clause-plays : goal.returns-then-branch-clause-plays
returns-then-branch-clause-plays g c = (opening-left _ _ _ _ _ _ _ _ c.if-branch.true (c.in_ok-open.ensures.serves g.Q.Reader.reads)).0

pub returns-clause-plays : goal.returns-clause-plays
returns-clause-plays g c = (opened-played c.play_input.result _ _ _ _ _ _ _ _ _ _ _ c.if-branch.false (unseen-same c.open.ensures.stays.same) (c.in_ok-open.ensures.serves g.Q.Reader.reads) (c.play_input.ensures.plays c.args.keys.now)).0
