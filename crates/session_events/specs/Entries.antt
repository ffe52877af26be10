-- Events and the entries of a history.
use Rattle.std.specs.Prelude.{◌≡◌, ℕ, Bool, true, false, ◌&&◌, ◌==◌, if◌then◌else◌, List, [], ◌∷◌}
use Rattle.std.specs.List.{AllByRecursion, list_any}
use Rattle.session_events.specs.declared.event.Event.{Event}
use Rattle.session_events.specs.declared.event.Event.TheVariants.{Join, Refresh, Leave}
use Rattle.session_events.specs.declared.event.Answered.{Answered}
use Rattle.session_events.specs.declared.event.Entry.{Entry}
use Rattle.session_events.specs.declared.kind.Kind.{Kind}
use Rattle.session_events.specs.declared.kind.Kind.TheVariants.{Coming, Doing, Drawing, Going}

-- what an event is to its client's life; all else that is said here of an event goes by that
abbrev pub kind_of : Event → Kind
kind_of Join = Coming
kind_of (Refresh asked) = Drawing
kind_of Leave = Going
kind_of _ = Doing

abbrev pub is_coming : Kind → Bool
is_coming Coming = true
is_coming _ = false

abbrev pub is_going : Kind → Bool
is_going Going = true
is_going _ = false

abbrev pub draws : Kind → Bool
draws Drawing = true
draws _ = false

-- an event is a client's coming
abbrev pub is_join : Event → Bool
is_join event = is_coming (kind_of event)

-- an event is a client's going
abbrev pub is_leave : Event → Bool
is_leave event = is_going (kind_of event)

-- an event is a drawing, whether or not it was asked for
abbrev pub is_drawing : Event → Bool
is_drawing event = draws (kind_of event)

-- the entry of an event, with what the outside answered
abbrev pub entry_with : ℕ → Event → List Answered → Entry
entry_with who event answers = record { who = who; event = event; answers = answers }

-- the entry of an event for which the outside was asked nothing
abbrev pub entry_of : ℕ → Event → Entry
entry_of who event = entry_with who event []

-- each entry is that client's
abbrev pub AreOf : ℕ → List Entry → Type 0
AreOf who entries = AllByRecursion (λ entry. entry.who ≡ who) entries

-- the entries of others among some entries
abbrev pub others_of : ℕ → List Entry → List Entry
others_of who [] = []
others_of who (entry ∷ entries) = if entry.who == who then others_of who entries else entry ∷ others_of who entries

-- whether an entry is that client's coming
abbrev pub is_join_of : ℕ → Entry → Bool
is_join_of who entry = (entry.who == who) && is_join entry.event

-- whether a client's coming is among some entries
abbrev pub has_joined : ℕ → List Entry → Bool
has_joined who entries = list_any (is_join_of who) entries
