use Rattle.session_events.specs.declared.event.Event.TheVariants.{Join}
use Rattle.session_replay.specs.Settings.{setting}
use Rattle.session_replay.proofs.PlayingLemmas.{steps-grow, sees-grow, nothing-added, has-come}
use Rattle.session_replay.proofs.playing.join.Goals as goal

pub returns-in-Ok-clause-grows : goal.returns-in-Ok-clause-grows
returns-in-Ok-clause-grows g c = steps-grow _ _ (g.S.Seat.seated c.args.seats.now) _ _ Join c.in-Ok.output c.turn_to.ensures.turned c.step.ensures.same (g.met.S.Seats.alone c.step.new.self) c.in-Ok.ensures.ok

pub returns-in-Ok-clause-came : goal.returns-in-Ok-clause-came
returns-in-Ok-clause-came g c = has-come (setting g.S.Seat.gives g.Q.Reader.reads) _ (g.S.Seat.seated c.args.seats.now) _ _ c.in-Ok.output c.turn_to.ensures.turned c.step.ensures.same c.requires.away c.in-Ok.ensures.ok

pub returns-in-Err-clause-grows : goal.returns-in-Err-clause-grows
returns-in-Err-clause-grows g c = sees-grow _ _ (g.S.Seat.seated c.args.seats.now) _ _ c.turn_to.ensures.turned c.step.ensures.same (g.met.S.Seats.alone c.step.new.self) c.in-Err.ensures.err

pub returns-in-Err-clause-refused : goal.returns-in-Err-clause-refused
returns-in-Err-clause-refused g c = nothing-added (setting g.S.Seat.gives g.Q.Reader.reads) _ (g.S.Seat.seated c.args.seats.now) _ _ c.turn_to.ensures.turned c.step.ensures.same (g.met.S.Seats.alone c.step.new.self) c.in-Err.ensures.err
