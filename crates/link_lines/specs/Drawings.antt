-- When a client is drawn without having asked for it.
use Rattle.std.specs.Prelude.{◌≡◌, ℕ, Bool, true, false, not, ◌&&◌, ◌==◌, List, [], ◌∷◌, ◌++◌, ⊤}
use Rattle.session_events.specs.declared.event.Event.{Event}
use Rattle.session_events.specs.declared.event.Event.TheVariants.{Refresh}
use Rattle.session_events.specs.declared.event.Entry.{Entry}
use Rattle.session_events.specs.Missing.{has_missed}
use Rattle.session_events.specs.Seats.{Seated}

-- an event is a drawing for which the client didn't ask
abbrev pub is_unasked : Event → Bool
is_unasked (Refresh asked) = not asked
is_unasked _ = false

-- an entry is such a drawing of that client
abbrev pub is_unasked_of : ℕ → Entry → Bool
is_unasked_of who entry = (entry.who == who) && is_unasked entry.event

-- of entries behind those before them, each drawing for which a client didn't ask stands where it had missed something
abbrev pub DrawsMissedBehind : ℕ → List Entry → List Entry → Type 0
DrawsMissedBehind who before [] = ⊤
DrawsMissedBehind who before (entry ∷ entries) =
    (is_unasked_of who entry ≡ true → has_missed who before ≡ true) × DrawsMissedBehind who (before ++ entry ∷ []) entries

-- so it is in a whole history
abbrev pub DrawsOnlyMissed : ℕ → List Entry → Type 0
DrawsOnlyMissed who history = DrawsMissedBehind who [] history

-- and where it was so of what was seen from a seat, it is so still
abbrev pub DrawsOnlyMissedStill : Seated → Seated → Type 0
DrawsOnlyMissedStill old new = DrawsOnlyMissed old.number old.seen → DrawsOnlyMissed old.number new.seen
