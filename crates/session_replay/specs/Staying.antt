-- What stays of a session over a call.
use Rattle.std.specs.Prelude.{◌≡◌}
use Rattle.std.specs.declared.result.Result.{Result}
use Rattle.session_events.specs.Seats.{Seated, IsLegalSeat}
use Rattle.session_lines.specs.declared.playing.Stop.{Stop}
use Rattle.session_lines.specs.Stops.{StaysWhole}

-- The session is the same still: what no step changes and its limit stay, its entries are a history that there can be, and
-- where it had no mark it has none, but where that is told.
pub record IsSessionStill {S K A : Type 0} (seated : S → Seated) (kept : S → K) (result : Result A Stop) (old new : S) : Type 0 where
  pub kept_is : kept new ≡ kept old
  pub limit : (seated new).limit ≡ (seated old).limit
  pub legal : IsLegalSeat (seated new)
  pub whole : StaysWhole result (seated old).mark (seated new).mark
