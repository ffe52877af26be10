use Rattle.std.proofs.lemmas.Result.{err_from_is_err_and}
use Rattle.session_replay.proofs.BoxLemmas.{shown-there}
use Rattle.session_replay.proofs.PlayingLemmas.{answers-grow, open-cut, open-untold, open-told}
use Rattle.session_replay.proofs.playing.open_for.Goals as goal

pub returns-in_err-reply-clause-grows : goal.returns-in_err-reply-clause-grows
returns-in_err-reply-clause-grows g c = answers-grow _ _ (g.S.Seat.seated c.args.seats.now) _ _ _ _ c.play_keys.result c.turn_to.ensures.turned c.play_keys.ensures.stays.same (g.met.S.Seats.alone c.play_keys.new.seat) c.play_keys.ensures.answers

pub returns-in_err-reply-clause-got : goal.returns-in_err-reply-clause-got
returns-in_err-reply-clause-got g c =
    let p = err_from_is_err_and c.from_residual.result c.from_residual.ensures.1 in
    rw (p.1, p.2) (open-cut _ _ (g.S.Seat.seated c.args.seats.now) _ _ _ c.args.leaving _ c.turn_to.ensures.turned c.play_keys.ensures.meaning c.requires.new (shown-there _ _ c.requires.taken) c.requires.untold c.in_err-reply.ensures.stops c.in_err-reply.ensures.answers)

pub returns-in_err-tell_box-clause-grows : goal.returns-in_err-tell_box-clause-grows
returns-in_err-tell_box-clause-grows g c = answers-grow _ _ (g.S.Seat.seated c.args.seats.now) _ _ _ _ c.play_keys.result c.turn_to.ensures.turned c.play_keys.ensures.stays.same (g.met.S.Seats.alone c.play_keys.new.seat) c.play_keys.ensures.answers

pub returns-in_err-tell_box-clause-got : goal.returns-in_err-tell_box-clause-got
returns-in_err-tell_box-clause-got g c =
    let p = err_from_is_err_and c.from_residual-in_err-tell_box.result c.from_residual-in_err-tell_box.ensures.1 in
    rw (p.1, p.2) (open-untold _ _ (g.S.Seat.seated c.args.seats.now) _ _ _ _ c.args.leaving c.in_ok-reply.reply _ c.turn_to.ensures.turned c.play_keys.ensures.meaning c.requires.new (shown-there _ _ c.requires.taken) c.requires.untold c.in_ok-reply.ensures.answers c.in_err-tell_box.ensures.tells)

pub returns-clause-grows : goal.returns-clause-grows
returns-clause-grows g c = answers-grow _ _ (g.S.Seat.seated c.args.seats.now) _ _ _ _ c.play_keys.result c.turn_to.ensures.turned c.play_keys.ensures.stays.same (g.met.S.Seats.alone c.play_keys.new.seat) c.play_keys.ensures.answers

pub returns-clause-got : goal.returns-clause-got
returns-clause-got g c = open-told _ _ (g.S.Seat.seated c.args.seats.now) _ _ _ _ c.args.leaving c.in_ok-reply.reply c.turn_to.ensures.turned c.play_keys.ensures.meaning c.requires.new (shown-there _ _ c.requires.taken) c.requires.untold c.in_ok-reply.ensures.answers c.in_ok-tell_box.ensures.tells.0
