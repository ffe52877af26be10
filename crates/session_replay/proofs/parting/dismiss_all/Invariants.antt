use Rattle.std.proofs.Common.{◌≡◌, ◌≤◌, ℕ, List, length, Ok}
use Rattle.ui_board.specs.declared.ui.Kind.{Kind}
use Rattle.session_turns.specs.Growth.{Begins, How}
use Rattle.session_events.specs.declared.event.Entry.{Entry}
use Rattle.session_replay.specs.Settings.{setting}
use Rattle.session_replay.specs.Players.{count_of, moment_of, ArePlayersStill}
use Rattle.session_replay.specs.Phases.{AreLeaving}
use Rattle.session_replay.proofs.parting.dismiss_all.Given as goal

-- all that were here with smaller numbers have left
abbrev pub invariant-loop-who : goal.invariant-loop-who
invariant-loop-who g l = record {
  still : ArePlayersStill {A = Unit {0}} g.S.Seat.seated g.S.Seat.kept (Ok tt) l.fn.players l.players;
  within : l.who ≤ count_of l.fn.players;
  grows : Begins (g.S.Seat.seated l.players.seats).seen (g.S.Seat.seated l.fn.players.seats).seen;
  leaving : (kinds : List Kind) → (hows : ℕ → How) → (lines : List (List ℕ)) → (before : List Entry) → length kinds ≡ count_of l.fn.players
      → AreLeaving (setting g.S.Seat.gives g.Q.Reader.reads) kinds hows 0 lines before (moment_of g.S.Seat.seated g.U.Ui.shown l.fn.players)
      → AreLeaving (setting g.S.Seat.gives g.Q.Reader.reads) kinds hows l.who lines before (moment_of g.S.Seat.seated g.U.Ui.shown l.players);
}
