-- Laws of the promises, each proved as the contract of a function of `laws`.
use Rattle.std.specs.Prelude.{◌≡◌, ℕ, ◌+◌, List, length, ⊤}
use Rattle.kak_ports.specs.Ports.{Rose}
use Rattle.key_names.specs.declared.key.Key.{Key}
use Rattle.session_events.specs.declared.event.Entry.{Entry}
use Rattle.session_events.specs.declared.limits.TheConstants.{MAX_ENTRIES}
use Rattle.kak_app.specs.declared.program.Status.{Status}
use Rattle.kak_app.specs.declared.program.Status.TheVariants.{ReadFault, WriteFault, HistoryFull, BadClient}
use Rattle.kak_app.specs.Runs.{Around, RunAnswers}

-- the statuses of a run in which no read and no write failed
abbrev pub IsWithoutFault : Status → Type 0
IsWithoutFault ReadFault = ⊥
IsWithoutFault WriteFault = ⊥
IsWithoutFault BadClient = ⊥
IsWithoutFault _ = ⊤

-- where neither count of faults rose, a run for a client was served to its end, wasn't called by the program's words, met a limit, or
-- found no memory
abbrev pub FaultsAreCounted : Type 0
FaultsAreCounted = (keys : List Key) (status : Status) (old new : Around) → RunAnswers keys status old new
    → (Rose old.inlet.faults new.inlet.faults → ⊥) → (Rose old.outlet.faults new.outlet.faults → ⊥) → IsWithoutFault status

-- a history is told as full only where it has all entries that it may have, and the leaving
abbrev pub FullHistoryIsFull : Type 0
FullHistoryIsFull = (keys : List Key) (old new : Around) → RunAnswers keys HistoryFull old new → (history : List Entry) × (length history ≡ MAX_ENTRIES + 1)
