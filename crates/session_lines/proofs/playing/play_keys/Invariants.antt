use Rattle.std.proofs.Common.{◌≡◌, [], take, map}
use Rattle.session_events.specs.declared.event.Event.TheVariants.{Key as Struck}
use Rattle.session_lines.specs.Serving.{AreTaken}
use Rattle.session_lines.specs.Stops.{Stays, IsWholeStill}
use Rattle.session_lines.proofs.playing.play_keys.Given as goal

-- the keys so far were struck
abbrev pub invariant-loop-key : goal.invariant-loop-key
invariant-loop-key g l = record {
  stays : Stays (g.S.Seat.seated l.fn.seat) (g.S.Seat.seated l.seat);
  kept : g.S.Seat.kept l.seat ≡ g.S.Seat.kept l.fn.seat;
  whole : IsWholeStill (g.S.Seat.seated l.fn.seat).mark (g.S.Seat.seated l.seat).mark;
  so_far : AreTaken g.S.Seat.gives (g.S.Seat.seated l.fn.seat) (g.S.Seat.seated l.seat) (map (λ key. Struck key) (take l.key-index l.keys)) [] l.leaving;
}
