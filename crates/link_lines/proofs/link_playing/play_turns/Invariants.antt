use Rattle.std.proofs.Common.{◌≡◌, List}
use Rattle.key_names.specs.declared.key.Key.{Key}
use Rattle.client_links.specs.Wires.{TellsNoMore}
use Rattle.session_lines.specs.Serving.{service}
use Rattle.session_lines.specs.Stops.{Stays, NoneFailed, IsWholeStill}
use Rattle.link_lines.specs.Drawings.{DrawsOnlyMissed}
use Rattle.link_lines.proofs.HeardLemmas.{HasHeard}
use Rattle.link_lines.proofs.link_playing.play_turns.Given as goal

-- what came so far was all played, and nothing failed
abbrev pub invariant-loop : goal.invariant-loop
invariant-loop g l = record {
  stays : Stays (g.S.Seat.seated l.fn.seat) (g.S.Seat.seated l.seat);
  kept : g.S.Seat.kept l.seat ≡ g.S.Seat.kept l.fn.seat;
  whole : IsWholeStill (g.S.Seat.seated l.fn.seat).mark (g.S.Seat.seated l.seat).mark;
  so_far : (opens : List Key) → HasHeard (service g.S.Seat.gives g.Q.Reader.reads opens) (g.S.Seat.seated l.fn.seat) (g.S.Seat.seated l.seat) (g.L.Link.wire l.fn.link) (g.L.Link.wire l.link) l.talk.reading.taken l.talk.reading.pending;
  faults : (g.L.Link.wire l.link).read_faults ≡ (g.L.Link.wire l.fn.link).read_faults;
  counted : NoneFailed (g.L.Link.wire l.fn.link).outlet (g.L.Link.wire l.link).outlet;
  drawn : DrawsOnlyMissed (g.S.Seat.seated l.fn.seat).number (g.S.Seat.seated l.fn.seat).seen → DrawsOnlyMissed (g.S.Seat.seated l.fn.seat).number (g.S.Seat.seated l.seat).seen;
  told : TellsNoMore (g.L.Link.wire l.fn.link) (g.L.Link.wire l.link);
}
