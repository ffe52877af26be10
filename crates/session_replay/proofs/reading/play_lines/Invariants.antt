use Rattle.std.proofs.Common.{◌+◌, ◌-◌, ◌≡◌, List, [], length, Ok}
use Rattle.ui_board.specs.declared.ui.Kind.{Kind}
use Rattle.line_reading.specs.declared.limits.TheConstants.{MAX_INPUT}
use Rattle.session_replay.specs.Settings.{setting}
use Rattle.session_replay.specs.Clients.{IsMoment}
use Rattle.session_replay.specs.Players.{count_of, moment_of, ArePlayersStill}
use Rattle.session_replay.proofs.PhaseLemmas.{AreReading}
use Rattle.session_replay.proofs.reading.play_lines.Given as goal

-- the lines that came so far were all played
abbrev pub invariant-lines : goal.invariant-lines
invariant-lines g l = record {
  still : ArePlayersStill {A = Unit {0}} g.S.Seat.seated g.S.Seat.kept (Ok tt) l.fn.players l.players;
  so_far : (kinds : List Kind) → length kinds ≡ count_of l.fn.players → IsMoment (setting g.S.Seat.gives g.Q.Reader.reads) kinds [] (moment_of g.S.Seat.seated g.U.Ui.shown l.fn.players)
      → AreReading (setting g.S.Seat.gives g.Q.Reader.reads) (g.S.Seat.seated l.fn.players.seats).limit kinds (moment_of g.S.Seat.seated g.U.Ui.shown l.players) (g.I.Source.inlet l.fn.source) (g.I.Source.inlet l.source) l.reader;
  faults : (g.I.Source.inlet l.source).faults ≡ (g.I.Source.inlet l.fn.source).faults;
}

abbrev pub decreases-lines : goal.decreases-lines
decreases-lines g l = (MAX_INPUT - l.reader.taken) + length l.reader.pending
