use Rattle.std.proofs.Common.{ap}
use Rattle.std.proofs.lemmas.Result.{err_from_is_err_and}
use Rattle.session_events.specs.Entries.{is_coming, is_going, draws}
use Rattle.session_lines.proofs.TakingLemmas.{one-refused, silent-taken}
use Rattle.session_lines.proofs.playing.act.Goals as goal

pub take-requires-clause-joins_no_more : goal.take-requires-clause-joins_no_more
take-requires-clause-joins_no_more g c = ap is_coming c.requires.acts

pub returns-in_err-output-clause-takes : goal.returns-in_err-output-clause-takes
returns-in_err-output-clause-takes g c =
    let p = err_from_is_err_and c.from_residual.result c.from_residual.ensures.1 in
    rw (p.1, p.2) (one-refused _ _ _ c.args.event.now _ c.in_err-output.ensures.err)

pub returns-clause-takes : goal.returns-clause-takes
returns-clause-takes g c = silent-taken _ _ _ c.args.event.now c.in_ok-output.output (ap is_going c.requires.acts) (ap draws c.requires.acts) c.in_ok-output.ensures.meaning c.in_ok-output.ensures.ok
