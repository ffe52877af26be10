-- That players are the same still over calls one after another.
use Rattle.std.proofs.Common.{ℕ, refl, ◌∙◌, Ok, Err}
use Rattle.std.specs.declared.option.Option.{Option}
use Rattle.std.specs.declared.result.Result.{Result}
use Rattle.session_events.specs.Seats.{Seated, IsLegalSeat}
use Rattle.session_lines.specs.declared.playing.Stop.{Stop}
use Rattle.session_lines.specs.Stops.{IsWholeStill, StaysWhole}
use Rattle.session_lines.proofs.StayingLemmas.{whole-still, whole-then}
use Rattle.session_replay.specs.declared.players.Players.{Players}
use Rattle.session_replay.specs.Players.{ArePlayersStill}

-- before anything was done
pub still-first : {S U K : Type 0} (seated : S → Seated) (kept : S → K) (players : Players S U) → IsLegalSeat (seated players.seats) → ArePlayersStill {A = Unit {0}} seated kept (Ok tt) players players
still-first seated kept players legal = record {
  session = record { kept_is = refl; limit = refl; legal = legal; whole = λ none. none };
  count = refl;
  stops = tt;
}

-- one call after another
whole-more : {A : Type 0} (result : Result A Stop) (x y z : Option ℕ) → IsWholeStill x y → StaysWhole result y z → StaysWhole result x z
whole-more (Ok done) x y z f g = whole-still f g
whole-more (Err why) x y z f g = whole-then why x y z f g

pub still-then : {S U K A B : Type 0} {seated : S → Seated} {kept : S → K} {x y z : Players S U} (done : A) (result : Result B Stop) → ArePlayersStill seated kept (Ok done) x y → ArePlayersStill seated kept result y z → ArePlayersStill seated kept result x z
still-then {seated = seated} {x = x} {y = y} {z = z} done result s t = record {
  session = record {
    kept_is = t.session.kept_is ∙ s.session.kept_is;
    limit = t.session.limit ∙ s.session.limit;
    legal = t.session.legal;
    whole = whole-more result (seated x.seats).mark (seated y.seats).mark (seated z.seats).mark s.session.whole t.session.whole;
  };
  count = t.count ∙ s.count;
  stops = t.stops;
}

-- whatever a call gave that went well
pub still-done : {S U K A B : Type 0} {seated : S → Seated} {kept : S → K} {x y : Players S U} (done : A) (other : B) → ArePlayersStill seated kept (Ok done) x y → ArePlayersStill seated kept (Ok other) x y
still-done done other s = record {
  session = record { kept_is = s.session.kept_is; limit = s.session.limit; legal = s.session.legal; whole = s.session.whole };
  count = s.count;
  stops = tt;
}

-- whatever a call would have given that was stopped
pub still-stop : {S U K A B : Type 0} {seated : S → Seated} {kept : S → K} {x y : Players S U} (why : Stop) → ArePlayersStill {A = A} seated kept (Err why) x y → ArePlayersStill {A = B} seated kept (Err why) x y
still-stop why s = record {
  session = record { kept_is = s.session.kept_is; limit = s.session.limit; legal = s.session.legal; whole = s.session.whole };
  count = s.count;
  stops = s.stops;
}
