-- What an engine holds, and which events it refuses.
use Rattle.std.specs.Prelude.{◌≡◌, ◌≤◌, ◌<◌, ◌+◌, ℕ, Bool, true, false, not, ◌&&◌, nat_le, if◌then◌else◌, List, [], ◌∷◌, ◌++◌, length, IfSome, None, Some, Err}
use Rattle.std.specs.declared.option.Option.{Option}
use Rattle.std.specs.declared.result.Result.{Result}
use Rattle.session_events.specs.declared.event.Event.{Event}
use Rattle.session_events.specs.declared.event.Entry.{Entry}
use Rattle.session_events.specs.declared.event.Output.{Output}
use Rattle.session_events.specs.declared.fault.StepFault.{StepFault}
use Rattle.session_events.specs.declared.fault.StepFault.TheVariants.{Broken, NoClient, Joined, HistoryFull, Full, NoMemory}
use Rattle.session_events.specs.declared.event.Answered.{Answered}
use Rattle.session_events.specs.declared.kind.Kind.{Kind}
use Rattle.session_events.specs.declared.kind.Kind.TheVariants.{Coming}
use Rattle.session_events.specs.Entries.{entry_with, is_join, is_leave, has_joined}
use Rattle.session_events.specs.Legal.{Away, presence_from, is_here, IsLegal}
use Rattle.kak_files.specs.Files.{Shelf}
use Rattle.kak_world.specs.declared.world.TheConstants.{MAX_CLIENTS}
use Rattle.kak_world.specs.Seen.{Kept}
use Rattle.kak_world.specs.Stored.{Stored, first_stored}
use Rattle.kak_world.specs.Flat.{Flat, opening, is_here as is_among, is_joined}
use Rattle.kak_engine.specs.Steps.{run, output_of, asked_by, exchanges, is_session_full, AreAskedFor, AllAsked, IsStepCutShort, IsStepLeft}
use Rattle.kak_engine.specs.Honesty.{Outside, IsHonest, IsKept}

-- a world that is put back, as it is seen; where there is none, one before anything happened, of which nothing is stored
abbrev pub resting : Option Kept → Kept
resting (Some world) = world
resting None = record { flat = opening; stored = [] }

-- an engine: its history, the number of entries that stood when it broke, if it did, how many it may have, its outside, and
-- the world inside it, of which the buffers' texts are, and how the selection lists on these are stored
pub record HeldEngine : Type 0 where
  pub history : List Entry
  pub mark : Option ℕ
  pub limit : ℕ
  pub outside : Outside
  pub inside : Flat
  -- the selection lists on each buffer, as they are stored
  pub stored : List (Option Stored)
  -- whether its texts were rescued
  pub rescued : Bool

-- the files of an engine, where its history tells all that was exchanged with them: a rescue stands in no history
abbrev pub files_told : Bool → Shelf → Option Shelf
files_told true shelf = None
files_told false shelf = Some shelf

-- An engine that isn't broken has the world that its history leads to, in which those clients are, and have joined, that
-- have come and not gone, and no more than there may be. What was exchanged with its files in its history is what led to
-- what they hold, where its history tells all of them. Its history is one that there can be. One that is broken has the number of
-- its entries as its mark.
pub record EngineStands (flat : Flat) (history : List Entry) (mark : Option ℕ) (limit : ℕ) (shelf : Option Shelf) : Type 0 where
  pub world : mark ≡ None → flat ≡ run history
  pub known : mark ≡ None → (who : ℕ) → is_joined who flat ≡ is_here (presence_from who Away history)
  pub here : mark ≡ None → (who : ℕ) → is_among who flat.clients ≡ is_here (presence_from who Away history)
  pub few : mark ≡ None → length flat.clients ≤ MAX_CLIENTS
  pub kept : mark ≡ None → IfSome shelf (IsKept (exchanges history))
  pub legal : IsLegal limit history
  pub asked : AllAsked history
  pub marked : IfSome mark (λ at. at ≡ length history)

-- a place is kept for the going of each client that is here, in a history of so many entries, with room for so many
abbrev pub KeepsPlaces : Option ℕ → Flat → ℕ → ℕ → Type 0
KeepsPlaces mark flat count room = mark ≡ None → count + length flat.clients ≤ room

-- why an event of a client is refused by an engine that isn't broken: the first reason that holds. A client that has come
-- and not gone is here
abbrev pub refused_by : List Entry → ℕ → ℕ → Event → Option StepFault
refused_by history limit who event =
    if not (is_join event) && not (is_here (presence_from who Away history)) then Some (NoClient who)
    else (if is_join event && has_joined who history then Some (Joined who)
    else (if not (is_leave event) && nat_le limit (length history) then Some HistoryFull
    else (if is_join event && is_session_full (run history) then Some Full
    else None)))

-- why an event of a client is refused, if it is; a broken engine refuses all
abbrev pub refused_at : Option ℕ → List Entry → ℕ → ℕ → Event → Option StepFault
refused_at (Some at) history limit who event = Some (Broken at)
refused_at None history limit who event = refused_by history limit who event

abbrev pub event_refusal : HeldEngine → ℕ → Event → Option StepFault
event_refusal held who event = refused_at held.mark held.history held.limit who event

-- the mark after a step: want of memory sets one that isn't set
abbrev pub marked_by : Option ℕ → ℕ → Option ℕ
marked_by None count = Some count
marked_by (Some at) count = Some at

abbrev pub marked_after : Result Output StepFault → HeldEngine → Option ℕ
marked_after (Err NoMemory) held = marked_by held.mark (length held.history)
marked_after _ held = held.mark

-- a client may come: it isn't here, and there are fewer clients than there may be
pub record CanCome (who : ℕ) (flat : Flat) : Type 0 where
  pub away : is_among who flat.clients ≡ false
  pub few : length flat.clients < MAX_CLIENTS

-- an event of some kind can be run: who joins may come, and all other events are of one that is there
abbrev pub CanRun : Kind → ℕ → Flat → Type 0
CanRun Coming who flat = CanCome who flat
CanRun _ who flat = is_joined who flat ≡ true

-- An event of a client was taken: its entry was added with what the outside answered, which is what was asked for, and the
-- output is what it gives on the world that the history led to. The outside was asked for just that, and was honest in it.
pub record TakesEvent (who : ℕ) (event : Event) (old new : HeldEngine) (output : Output) : Type 0 where
  pub answers : List Answered
  pub keeps : new.history ≡ old.history ++ entry_with who event answers ∷ []
  pub gives : output ≡ output_of who event answers (run old.history)
  pub asked : AreAskedFor who event answers (run old.history)
  pub honest : IsHonest answers (asked_by who event answers (run old.history)) old.outside new.outside

-- an engine to which nothing happened
abbrev pub new_engine : Outside → ℕ → HeldEngine
new_engine outside limit = record { history = []; mark = None; limit = limit; outside = outside; inside = opening; stored = first_stored; rescued = false }

-- an event of a client was begun, and memory was wanting: the world inside is left by it
abbrev pub LeavesInside : ℕ → Event → HeldEngine → HeldEngine → Type 0
LeavesInside who event old new = IsStepLeft who event (run old.history) new.inside old.outside new.outside

-- an event of a client was begun, and memory was wanting: in it the outside was asked for a beginning of what it asks for
abbrev pub CutsEvent : ℕ → Event → HeldEngine → HeldEngine → Type 0
CutsEvent who event old new = IsStepCutShort who event (run old.history) old.outside new.outside
