-- How many clients are here, and how many have come, behind the entries of a history.
use Rattle.std.specs.Prelude.{◌≤◌, ℕ, not, ◌==◌, List, [], ◌∷◌, ◌++◌, length, filter, count_by}
use Rattle.session_events.specs.declared.event.Entry.{Entry}
use Rattle.session_events.specs.declared.kind.Kind.{Kind}
use Rattle.session_events.specs.declared.kind.Kind.TheVariants.{Coming, Going}
use Rattle.session_events.specs.Entries.{kind_of, is_join}

-- the numbers of the clients that are here behind a client's event of some kind, from those that were here before it
abbrev pub here_after : ℕ → Kind → List ℕ → List ℕ
here_after who Coming here = here ++ who ∷ []
here_after who Going here = filter (λ number. not (number == who)) here
here_after who _ here = here

-- the same behind some entries
abbrev pub here_from : List ℕ → List Entry → List ℕ
here_from here [] = here
here_from here (entry ∷ entries) = here_from (here_after entry.who (kind_of entry.event) here) entries

-- the numbers of the clients that are here behind the entries of a history, in the order in which they came
abbrev pub here_among : List Entry → List ℕ
here_among history = here_from [] history

-- how many clients are here behind the entries of a history
abbrev pub joined_among : List Entry → ℕ
joined_among history = length (here_among history)

-- how many clients have come among the entries of a history
abbrev pub comings : List Entry → ℕ
comings history = count_by (λ entry. is_join entry.event) history

-- from those who are here before some entries on, never more than so many clients are here: neither before them, nor behind
-- any of them
abbrev pub AreNeverMore : ℕ → List ℕ → List Entry → Type 0
AreNeverMore most here [] = length here ≤ most
AreNeverMore most here (entry ∷ entries) = (length here ≤ most) × AreNeverMore most (here_after entry.who (kind_of entry.event) here) entries

-- how many clients may be here at once
abbrev pub most_here : ℕ
most_here = 64
