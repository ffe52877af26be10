use Rattle.std.proofs.Common.{refl}
use Rattle.std.proofs.lemmas.Result.{err_from_is_err_and}
use Rattle.link_lines.proofs.TalkLemmas.{drawing-cut, drawing-told}
use Rattle.link_lines.proofs.talk.Talk.draw_missed.Goals as goal

pub returns-in_err-reply-in-Something-clause-draws : goal.returns-in_err-reply-in-Something-clause-draws
returns-in_err-reply-in-Something-clause-draws g c =
    let p = err_from_is_err_and c.from_residual.result c.from_residual.ensures.1 in
    rw (p.1, p.2) (λ reads opens. drawing-cut (Unit {0}) _ _ _ _ _ _ refl c.in-Something.ensures.same c.in-Something.ensures.sees c.in-Something.ensures.tells.0 c.in_err-reply-in-Something.ensures.stops c.in_err-reply-in-Something.ensures.answers)

pub returns-in_ok-reply-in-Something-clause-draws : goal.returns-in_ok-reply-in-Something-clause-draws
returns-in_ok-reply-in-Something-clause-draws g c = λ reads opens. drawing-told _ _ _ _ _ _ _ _ refl c.in-Something.ensures.same c.in-Something.ensures.sees c.in-Something.ensures.tells.0 c.in_ok-reply-in-Something.ensures.answers c.in_ok-reply-in-Something.ensures.remains c.tell.ensures.told
