-- What a client of a session has missed.
use Rattle.std.specs.Prelude.{◌≡◌, ℕ, Bool, true, false, not, ◌&&◌, ◌==◌, if◌then◌else◌, List, [], ◌∷◌, None, Some}
use Rattle.std.specs.List.{list_any}
use Rattle.session_events.specs.declared.event.Entry.{Entry}
use Rattle.session_events.specs.Entries.{is_drawing}
use Rattle.session_events.specs.Legal.{Away, is_here, presence_from}
use Rattle.session_events.specs.Seats.{Seated}
use Rattle.session_events.specs.declared.live.Missed.{Missed}
use Rattle.session_events.specs.declared.live.Missed.TheVariants.{Nothing, Something, Broken}

-- an entry is that client's drawing
abbrev pub is_drawing_of : ℕ → Entry → Bool
is_drawing_of who entry = (entry.who == who) && is_drawing entry.event

-- an entry is something to be drawn: no drawing, whoever made it
abbrev pub is_news : Entry → Bool
is_news entry = not (is_drawing entry.event)

-- the entries behind a client's last drawing; all of them where it wasn't drawn
abbrev pub behind_drawing : ℕ → List Entry → List Entry
behind_drawing who [] = []
behind_drawing who (entry ∷ entries) =
    if list_any (is_drawing_of who) (entry ∷ entries) then behind_drawing who entries else entry ∷ entries

-- whether something to be drawn stands behind a client's last drawing
abbrev pub has_news : ℕ → List Entry → Bool
has_news who entries = list_any is_news (behind_drawing who entries)

-- whether a client has missed something: it is here, and something to be drawn stands behind its last drawing
abbrev pub has_missed : ℕ → List Entry → Bool
has_missed who entries = is_here (presence_from who Away entries) && has_news who entries

-- What a look tells of the entries and the mark that are then seen.
abbrev pub TellsMissed : Missed → Seated → Type 0
TellsMissed Nothing seat = (has_missed seat.number seat.seen ≡ false) × (seat.mark ≡ None)
TellsMissed Something seat = (has_missed seat.number seat.seen ≡ true) × (seat.mark ≡ None)
TellsMissed (Broken at) seat = seat.mark ≡ Some at
