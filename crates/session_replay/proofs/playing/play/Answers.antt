use Rattle.std.proofs.lemmas.Result.{err_from_is_err_and}
use Rattle.session_replay.proofs.BoxLemmas.{shown-there}
use Rattle.session_replay.proofs.PlayingLemmas.{answers-grow, line-cut, line-untold, line-told}
use Rattle.session_replay.proofs.playing.play.Goals as goal

pub returns-in_err-reply-clause-grows : goal.returns-in_err-reply-clause-grows
returns-in_err-reply-clause-grows g c = answers-grow _ _ (g.S.Seat.seated c.args.seats.now) _ _ _ _ c.answer_line.result c.turn_to.ensures.turned c.answer_line.ensures.stays.same (g.met.S.Seats.alone c.answer_line.new.seat) c.answer_line.ensures.answers

pub returns-in_err-reply-clause-got : goal.returns-in_err-reply-clause-got
returns-in_err-reply-clause-got g c =
    let p = err_from_is_err_and c.from_residual.result c.from_residual.ensures.1 in
    rw (p.1, p.2) (λ lines. line-cut _ _ (g.S.Seat.seated c.args.seats.now) _ _ _ c.args.line.now lines _ c.turn_to.ensures.turned (shown-there _ _ c.requires.taken) c.in_err-reply.ensures.stops c.in_err-reply.ensures.answers)

pub returns-in_err-tell_box-clause-grows : goal.returns-in_err-tell_box-clause-grows
returns-in_err-tell_box-clause-grows g c = answers-grow _ _ (g.S.Seat.seated c.args.seats.now) _ _ _ _ c.answer_line.result c.turn_to.ensures.turned c.answer_line.ensures.stays.same (g.met.S.Seats.alone c.answer_line.new.seat) c.answer_line.ensures.answers

pub returns-in_err-tell_box-clause-got : goal.returns-in_err-tell_box-clause-got
returns-in_err-tell_box-clause-got g c =
    let p = err_from_is_err_and c.from_residual-in_err-tell_box.result c.from_residual-in_err-tell_box.ensures.1 in
    rw (p.1, p.2) (λ lines. line-untold _ _ (g.S.Seat.seated c.args.seats.now) _ _ _ _ c.args.line.now lines c.in_ok-reply.reply _ c.turn_to.ensures.turned (shown-there _ _ c.requires.taken) c.in_ok-reply.ensures.answers c.in_err-tell_box.ensures.tells)

pub returns-clause-grows : goal.returns-clause-grows
returns-clause-grows g c = answers-grow _ _ (g.S.Seat.seated c.args.seats.now) _ _ _ _ c.answer_line.result c.turn_to.ensures.turned c.answer_line.ensures.stays.same (g.met.S.Seats.alone c.answer_line.new.seat) c.answer_line.ensures.answers

pub returns-clause-got : goal.returns-clause-got
returns-clause-got g c = λ lines. line-told _ _ (g.S.Seat.seated c.args.seats.now) _ _ _ _ c.args.line.now lines c.in_ok-reply.reply c.turn_to.ensures.turned (shown-there _ _ c.requires.taken) c.in_ok-reply.ensures.answers c.in_ok-tell_box.ensures.tells.0
