use Rattle.std.proofs.Common.{refl}
use Rattle.std.proofs.lemmas.Result.{err_from_is_err_and}
use Rattle.session_turns.specs.Turns.{Opening}
use Rattle.session_lines.proofs.StayingLemmas.{whole-for}
use Rattle.session_lines.proofs.ServingLemmas.{serves-cut, answered-told, answered-untold}
use Rattle.session_lines.proofs.turns.open.Goals as goal

pub returns-in_err-reply-clause-serves : goal.returns-in_err-reply-clause-serves
returns-in_err-reply-clause-serves g c =
    let p = err_from_is_err_and c.from_residual.result c.from_residual.ensures.1 in
    rw (p.1, p.2) (λ reads. serves-cut _ _ _ _ Opening _ _ c.in_err-reply.ensures.stops c.in_err-reply.ensures.answers refl)

pub returns-in_err-send_telling-clause-serves : goal.returns-in_err-send_telling-clause-serves
returns-in_err-send_telling-clause-serves g c =
    let p = err_from_is_err_and c.from_residual-in_err-send_telling.result c.from_residual-in_err-send_telling.ensures.1 in
    rw (p.1, p.2) (λ reads. answered-untold _ _ _ _ _ Opening _ _ _ _ c.in_ok-reply.ensures.answers refl refl c.in_err-send_telling.ensures)

pub returns-clause-serves : goal.returns-clause-serves
returns-clause-serves g c = λ reads. answered-told _ _ _ _ _ Opening _ _ c.in_ok-reply.reply c.in_ok-reply.ensures.answers refl refl c.in_ok-send_telling.ensures.0

pub returns-in_err-reply-clause-whole : goal.returns-in_err-reply-clause-whole
returns-in_err-reply-clause-whole g c =
    let p = err_from_is_err_and c.from_residual.result c.from_residual.ensures.1 in
    rw (p.1, p.2) c.in_err-reply.ensures.whole

pub returns-in_err-send_telling-clause-whole : goal.returns-in_err-send_telling-clause-whole
returns-in_err-send_telling-clause-whole g c =
    let p = err_from_is_err_and c.from_residual-in_err-send_telling.result c.from_residual-in_err-send_telling.ensures.1 in
    rw (p.1, p.2) (whole-for _ _ _ c.in_ok-reply.ensures.whole)
