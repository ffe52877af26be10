-- Which histories there can be.
use Rattle.std.specs.Prelude.{◌≡◌, ℕ, Bool, true, false, not, ◌&&◌, ◌==◌, if◌then◌else◌, List, [], ◌∷◌, drop}
use Rattle.std.specs.List.{AllByRecursion}
use Rattle.session_events.specs.declared.event.Entry.{Entry}
use Rattle.session_events.specs.declared.kind.Kind.{Kind}
use Rattle.session_events.specs.declared.kind.Kind.TheVariants.{Coming, Going}
use Rattle.session_events.specs.Entries.{kind_of, is_coming, is_leave}
use Rattle.session_events.specs.Counting.{AreNeverMore, most_here}

-- Where a client is: it hasn't come yet, it is here, or it has gone.
pub data Presence : Type 0 where
  Away : Presence
  Here : Presence
  Gone : Presence

abbrev pub is_here : Presence → Bool
is_here Here = true
is_here _ = false

-- where a client is after an event of its own, of some kind
abbrev pub presence_after : Kind → Presence → Presence
presence_after Coming p = Here
presence_after Going p = Gone
presence_after _ p = p

-- whether a client may make an event of some kind: its coming is first and comes once, and nothing comes behind its going
abbrev pub may_make : Presence → Kind → Bool
may_make Away kind = is_coming kind
may_make Here kind = not (is_coming kind)
may_make Gone kind = false

-- where a client is behind some entries, from where it was before them
abbrev pub presence_from : ℕ → Presence → List Entry → Presence
presence_from who p [] = p
presence_from who p (entry ∷ entries) = presence_from who (if entry.who == who then presence_after (kind_of entry.event) p else p) entries

-- whether a client may make all of its events among some entries, one after another
abbrev pub may_make_all : ℕ → Presence → List Entry → Bool
may_make_all who p [] = true
may_make_all who p (entry ∷ entries) =
    if entry.who == who
    then may_make p (kind_of entry.event) && may_make_all who (presence_after (kind_of entry.event) p) entries
    else may_make_all who p entries

-- each entry is a client's going
abbrev pub AreLeavings : List Entry → Type 0
AreLeavings entries = AllByRecursion (λ entry. is_leave entry.event ≡ true) entries

-- a history keeps its limit: behind so many entries there are leavings alone
abbrev pub KeepsLimit : ℕ → List Entry → Type 0
KeepsLimit limit history = AreLeavings (drop limit history)

-- A history that there can be: each client comes first, once, and makes nothing behind its going; the limit is kept; and never
-- are more clients here than may be at once.
pub record IsLegal (limit : ℕ) (history : List Entry) : Type 0 where
  pub lives : (who : ℕ) → may_make_all who Away history ≡ true
  pub within : KeepsLimit limit history
  pub few : AreNeverMore most_here [] history
