use Rattle.std.proofs.Common.{refl}
use Rattle.std.proofs.lemmas.Result.{err_from_is_err_and}
use Rattle.session_turns.specs.Turns.{Opening}
use Rattle.session_lines.proofs.ServingLemmas.{serves-cut, answered-told, answered-untold}
use Rattle.link_lines.proofs.talk.Talk.open.Goals as goal

pub returns-in_err-reply-clause-serves : goal.returns-in_err-reply-clause-serves
returns-in_err-reply-clause-serves g c =
    let p = err_from_is_err_and c.from_residual.result c.from_residual.ensures.1 in
    rw (p.1, p.2) (λ reads. serves-cut _ _ _ _ Opening _ _ c.in_err-reply.ensures.stops c.in_err-reply.ensures.answers refl)

pub returns-in_err-tell-clause-serves : goal.returns-in_err-tell-clause-serves
returns-in_err-tell-clause-serves g c =
    let p = err_from_is_err_and c.from_residual-in_err-tell.result c.from_residual-in_err-tell.ensures.1 in
    rw (p.1, p.2) (λ reads. answered-untold _ _ _ _ _ Opening _ _ _ _ c.in_ok-reply.ensures.answers refl refl c.in_err-tell.ensures.told)

pub returns-clause-serves : goal.returns-clause-serves
returns-clause-serves g c = λ reads. answered-told _ _ _ _ _ Opening _ _ c.in_ok-reply.reply c.in_ok-reply.ensures.answers refl refl c.in_ok-tell.ensures.told.0
