-- The numbers that have joined, as a set that the code keeps of them.
use Rattle.std.specs.Prelude.{◌≡◌, ℕ, ◌==◌, ◌||◌, ◌&&◌, List, None}
use Rattle.std.specs.Ordering.{nat_cmp}
use Rattle.std.specs.BTreeSet.{BTreeSet, contains}
use Rattle.std.specs.declared.option.Option.{Option}
use Rattle.session_events.specs.declared.event.Event.{Event}
use Rattle.session_events.specs.declared.event.Entry.{Entry}
use Rattle.session_events.specs.Entries.{is_join, has_joined}

-- a set holds a number more where a client comes: its own
abbrev pub NotesComing : ℕ → Event → BTreeSet ℕ → BTreeSet ℕ → Type 0
NotesComing who event old new = (q : ℕ) → contains nat_cmp new q ≡ (((who == q) && is_join event) || contains nat_cmp old q)

-- a set holds the numbers that have joined in the history of an engine that isn't broken
abbrev pub KnowsJoined : Option ℕ → BTreeSet ℕ → List Entry → Type 0
KnowsJoined mark joined history = mark ≡ None → (q : ℕ) → contains nat_cmp joined q ≡ has_joined q history
