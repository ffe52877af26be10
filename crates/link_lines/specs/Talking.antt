-- What the talking with a client over its link did to the history, and to the bytes that were heard and sent.
use Rattle.std.specs.Prelude.{◌≡◌, true, false, ◌⊎◌, List, [], ◌∷◌, Ok, Err}
use Rattle.std.specs.declared.result.Result.{Result}
use Rattle.std.specs.Io.KnownBytes.{Appends}
use Rattle.kak_ports.specs.Ports.{Outlet}
use Rattle.key_names.specs.declared.key.Key.{Key}
use Rattle.requests.specs.Reading.{Reads}
use Rattle.session_turns.specs.Turns.{Phase, Opening, During, Idle}
use Rattle.session_turns.specs.Growth.{How, Whole}
use Rattle.session_events.specs.Seats.{Seated, IsSameSeat, Sees}
use Rattle.session_events.specs.Meaning.{Gives}
use Rattle.session_events.specs.Missing.{has_missed}
use Rattle.client_links.specs.Wires.{Wire}
use Rattle.line_reading.specs.Hearing.{inlet_of}
use Rattle.session_lines.specs.declared.playing.Stop.{Stop}
use Rattle.session_lines.specs.declared.playing.Stop.TheVariants.{Broken}
use Rattle.session_lines.specs.declared.reading.InputEnd.{InputEnd}
use Rattle.session_lines.specs.Serving.{Service, service, Serves, unseen, how_of}
use Rattle.session_lines.specs.Connections.{Plays}

-- Entries of others came, if any, and the client has missed nothing of what it has seen; nothing was sent.
pub record MissesNothing (gives : Gives) (old new : Seated) (before now : Outlet) : Type 0 where
  pub sees : Sees gives old new
  pub none : has_missed new.number new.seen ≡ false
  pub silent : now ≡ before

-- Entries of others came, if any, and then the session was seen to be broken; nothing was sent.
pub record SeesBroken (gives : Gives) (old new : Seated) (before now : Outlet) : Type 0 where
  pub sees : Sees gives old new
  pub silent : now ≡ before

-- The client was seen to have missed something, and was drawn once without having asked for it.
pub record IsDrawnUnasked (with : Service) (old new : Seated) (before now : Outlet) (how : How) : Type 0 where
  pub looked : Seated
  pub same : IsSameSeat old looked
  pub sees : Sees with.gives old looked
  pub missed : has_missed looked.number looked.seen ≡ true
  pub serves : Serves with looked new before now how (During Idle ∷ [])

-- the client is drawn where it has missed something, and only there
abbrev pub DrawsMissed : {A : Type 0} → Service → Seated → Seated → Outlet → Outlet → Result A Stop → Type 0
DrawsMissed with old new before now (Ok _) = MissesNothing with.gives old new before now ⊎ IsDrawnUnasked with old new before now Whole
DrawsMissed with old new before now (Err (Broken at)) = SeesBroken with.gives old new before now ⊎ IsDrawnUnasked with old new before now (how_of (Err (Broken at)))
DrawsMissed with old new before now (Err why) = IsDrawnUnasked with old new before now (how_of (Err why))

-- and so it is whatever its lines are read as, and whatever keys its connection was opened with
abbrev pub DrawsWhatIsMissed : {A : Type 0} → Gives → Seated → Seated → Outlet → Outlet → Result A Stop → Type 0
DrawsWhatIsMissed gives old new before now result = (reads : Reads) → (opens : List Key) → DrawsMissed (service gives reads opens) old new before now result

-- Behind some first phases turns were played, whose lines are those of what was received.
pub record PlaysOver (first : List Phase) (with : Service) (old new : Seated) (before now : Wire) (result : Result InputEnd Stop) : Type 0 where
  pub plays : Plays true first with old new before.outlet now.outlet (inlet_of before) (inlet_of now) result
  pub received : Appends before.received now.received plays.bytes

-- a whole connection was played, its client's coming and its opening first
abbrev pub PlaysFromOpening : Service → Seated → Seated → Wire → Wire → Result InputEnd Stop → Type 0
PlaysFromOpening with old new before now result = PlaysOver (Opening ∷ []) with (unseen old) new before now result
