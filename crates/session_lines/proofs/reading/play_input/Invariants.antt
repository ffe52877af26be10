use Rattle.std.proofs.Common.{◌+◌, ◌-◌, ◌≡◌, List, false, length}
use Rattle.key_names.specs.declared.key.Key.{Key}
use Rattle.line_reading.specs.declared.limits.TheConstants.{MAX_INPUT}
use Rattle.session_lines.specs.Serving.{service}
use Rattle.session_lines.specs.Stops.{Stays, NoneFailed, IsWholeStill}
use Rattle.session_lines.proofs.ReadingLemmas.{HasRead}
use Rattle.session_lines.proofs.reading.play_input.Given as goal

-- the lines that came so far were all played
abbrev pub invariant-lines : goal.invariant-lines
invariant-lines g l = record {
  stays : Stays (g.S.Seat.seated l.fn.seat) (g.S.Seat.seated l.seat);
  kept : g.S.Seat.kept l.seat ≡ g.S.Seat.kept l.fn.seat;
  whole : IsWholeStill (g.S.Seat.seated l.fn.seat).mark (g.S.Seat.seated l.seat).mark;
  so_far : (opens : List Key) → HasRead false (service g.S.Seat.gives g.Q.Reader.reads opens) (g.S.Seat.seated l.fn.seat) (g.S.Seat.seated l.seat) (g.K.Sink.outlet l.fn.sink) (g.K.Sink.outlet l.sink) (g.I.Source.inlet l.fn.source) (g.I.Source.inlet l.source) l.reader.taken l.reader.pending;
  faults : (g.I.Source.inlet l.source).faults ≡ (g.I.Source.inlet l.fn.source).faults;
  counted : NoneFailed (g.K.Sink.outlet l.fn.sink) (g.K.Sink.outlet l.sink);
}

abbrev pub decreases-lines : goal.decreases-lines
decreases-lines g l = (MAX_INPUT - l.reader.taken) + length l.reader.pending
