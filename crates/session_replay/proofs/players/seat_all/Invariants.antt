use Rattle.std.specs.Prelude.{◌≡◌, [], map, take}
use Rattle.session_replay.specs.declared.places.ClientPlace.TheVariants as place
use Rattle.session_replay.specs.Players.{places, reports}
use Rattle.session_replay.proofs.players.seat_all.Given as goal

abbrev pub invariant-loop-ui : goal.invariant-loop-ui
invariant-loop-ui g l = record {
  away : places l.clients.items ≡ map (λ ui. place.Away) (take l._ui-index l._ui-items);
  unreported : reports l.clients.items ≡ map (λ ui. []) (take l._ui-index l._ui-items);
}
