use Rattle.session_turns.proofs.TurnLemmas.{phase_goes, phase_quits, phase_stops, phase_fails}
use Rattle.session_turns.proofs.growth.one_phase.Goals as goal

pub returns : goal.returns
returns g c = record { goes = phase_goes; quits = phase_quits; stops = phase_stops; fails = phase_fails }
