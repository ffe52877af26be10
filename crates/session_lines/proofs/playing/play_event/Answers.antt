use Rattle.std.proofs.lemmas.Result.{err_from_is_err_and}
use Rattle.session_lines.proofs.StayingLemmas.{whole-still, whole-then}
use Rattle.session_lines.proofs.TakingLemmas.{cut-drawn, drawn-cut, drawn-behind, keys-answered}
use Rattle.session_lines.proofs.playing.play_event.Goals as goal

pub returns-in_err-leaving-clause-answers : goal.returns-in_err-leaving-clause-answers
returns-in_err-leaving-clause-answers g c =
    let p = err_from_is_err_and c.from_residual.result c.from_residual.ensures.1 in
    rw (p.1, p.2) (cut-drawn _ _ _ c.args.event.now _ c.in_err-leaving.ensures.takes)

pub returns-in_err-telling-clause-answers : goal.returns-in_err-telling-clause-answers
returns-in_err-telling-clause-answers g c =
    let p = err_from_is_err_and c.from_residual-in_err-telling.result c.from_residual-in_err-telling.ensures.1 in
    rw (p.1, p.2) (drawn-cut _ _ _ _ c.args.event.now _ _ c.act.ensures.stays.same c.in_ok-leaving.ensures.takes c.in_err-telling.ensures.takes)

pub returns-clause-answers : goal.returns-clause-answers
returns-clause-answers g c = keys-answered _ _ _ _ _ (drawn-behind _ _ _ _ c.args.event.now _ _ c.act.ensures.stays.same c.in_ok-leaving.ensures.takes c.in_ok-telling.ensures.takes)

pub returns-in_err-telling-clause-whole : goal.returns-in_err-telling-clause-whole
returns-in_err-telling-clause-whole g c =
    let p = err_from_is_err_and c.from_residual-in_err-telling.result c.from_residual-in_err-telling.ensures.1 in
    rw (p.1, p.2) (whole-then _ _ _ _ c.in_ok-leaving.ensures.whole c.in_err-telling.ensures.whole)

pub returns-clause-whole : goal.returns-clause-whole
returns-clause-whole g c = whole-still c.in_ok-leaving.ensures.whole c.in_ok-telling.ensures.whole
