use Rattle.std.specs.Prelude.{◌≢◌, ◌<◌, ℕ}
use Rattle.session_replay.specs.declared.places.ClientPlace.TheVariants as place
use Rattle.session_replay.specs.Players.{places}
use Rattle.std.specs.Prelude.{get_or}
use Rattle.session_replay.proofs.players.Players.is_anybody_here.Given as goal

abbrev pub invariant-loop-who : goal.invariant-loop-who
invariant-loop-who g l = (other : ℕ) → other < l.who → get_or (places l.self.clients.items) other place.Away ≢ place.Here
