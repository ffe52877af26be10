-- What the seats of an engine keep: what the outside was asked for since they were made, and that it was honest; and how a session ends.
use Rattle.std.specs.Prelude.{◌≡◌, ℕ, true, false, List, None, Some}
use Rattle.std.specs.declared.option.Option.{Option}
use Rattle.std.specs.declared.result.Result.{Result}
use Rattle.std.specs.declared.alloc.AllocError.{AllocError}
use Rattle.session_events.specs.declared.event.Entry.{Entry}
use Rattle.session_events.specs.Entries.{is_join, others_of}
use Rattle.session_events.specs.declared.event.Event.{Event}
use Rattle.session_events.specs.Legal.{Away, is_here, presence_from}
use Rattle.session_events.specs.Seats.{Seated}
use Rattle.kak_world.specs.Flat.{Flat}
use Rattle.kak_engine.specs.Steps.{asked_in, answers_in, run, IsStepLeft}
use Rattle.kak_engine.specs.Honesty.{Outside, IsHonest}
use Rattle.kak_engine.specs.Held.{HeldEngine, new_engine}
use Rattle.kak_engine.specs.Rescue.{Rescues}

-- The seats of an engine.
pub record EngineSeated : Type 0 where
  -- what the engine holds
  pub engine : HeldEngine
  -- the client that they are turned to
  pub who : ℕ
  -- the outside as it was when they were made
  pub first : Outside

-- seats at an engine to which nothing happened
abbrev pub new_seats : Outside → ℕ → ℕ → EngineSeated
new_seats outside limit who = record {
  engine = new_engine outside limit;
  who = who;
  first = outside;
}

-- the seat that they are for that client: nobody else plays
abbrev pub seat_of : EngineSeated → Seated
seat_of seats = record {
  number = seats.who;
  limit = seats.engine.limit;
  mark = seats.engine.mark;
  seen = seats.engine.history;
  others = Some (others_of seats.who seats.engine.history);
}

-- An engine broke behind a history: an event was begun that has no entry, since memory was wanting for it, of a client that is here
-- then, or a coming. The world inside and the outside are as that left them.
pub record BrokeBehind (history : List Entry) (inside : Flat) (before now : Outside) : Type 0 where
  pub who : ℕ
  pub event : Event
  pub here : is_join event ≡ false → is_here (presence_from who Away history) ≡ true
  pub left : IsStepLeft who event (run history) inside before now

-- what became of the outside behind the last entry: nothing, unless the engine broke
abbrev pub EndsBehind : Option ℕ → List Entry → Flat → Outside → Outside → Type 0
EndsBehind None history inside behind now = now ≡ behind
EndsBehind (Some at) history inside behind now = BrokeBehind history inside behind now

-- The outside was asked for just what the entries of an engine's history ask for, and was honest in the whole of it: it led from
-- how the outside was at first to how it was behind the last entry. From there on an engine that isn't broken left it alone. A
-- step that broke one has no entry; in it the outside was asked for a beginning of what that step asks for. No text was rescued.
pub record WasHonest (held : HeldEngine) (first : Outside) : Type 0 where
  pub behind : Outside
  pub honest : IsHonest (answers_in held.history) (asked_in held.history) first behind
  pub ends : EndsBehind held.mark held.history held.inside behind held.outside
  pub unrescued : held.rescued ≡ false

-- what an engine holds behind its last entry, and how its outside is then: as the history says, or as the event left them that broke it
abbrev pub StandsBehind : Option ℕ → List Entry → Flat → Outside → Outside → Type 0
StandsBehind None history inside behind now = (inside ≡ run history) × (now ≡ behind)
StandsBehind (Some at) history inside behind now = BrokeBehind history inside behind now

-- Behind its last entry the texts of an engine were rescued: those of the world that it holds then, each of which was tried.
pub record WasRescued (mark : Option ℕ) (history : List Entry) (inside : Flat) (behind last : Outside) : Type 0 where
  pub now : Outside
  pub stands : StandsBehind mark history inside behind now
  pub result : Result ℕ AllocError
  pub rescues : Rescues inside result now last

-- A session with some history ended since memory was wanting: the outside was asked for just what the entries ask for, and where the
-- engine broke, for a beginning of what one event more asks for, and then that the texts be rescued; and it was honest in all of that.
pub record WasLost (history : List Entry) (mark : Option ℕ) (inside : Flat) (first last : Outside) : Type 0 where
  pub behind : Outside
  pub honest : IsHonest (answers_in history) (asked_in history) first behind
  pub rescued : WasRescued mark history inside behind last

-- how an engine that is over left the outside: as the last entry did, unless it broke
abbrev pub ClosesBehind : Option ℕ → List Entry → Flat → Outside → Outside → Type 0
ClosesBehind None history inside behind last = last ≡ behind
ClosesBehind (Some at) history inside behind last = WasRescued (Some at) history inside behind last

-- An engine with some history is over: the outside was asked for just what the entries ask for, and where the engine broke, for a
-- beginning of what one event more asks for, and then that the texts be rescued that are inside; and it was honest in all of that.
pub record WasClosed (history : List Entry) (mark : Option ℕ) (inside : Flat) (first last : Outside) : Type 0 where
  pub behind : Outside
  pub honest : IsHonest (answers_in history) (asked_in history) first behind
  pub ends : ClosesBehind mark history inside behind last

-- an engine's texts were rescued, which changed nothing in it but what its outside was asked for
abbrev pub IsRescued : HeldEngine → HeldEngine → Type 0
IsRescued old new = (result : Result ℕ AllocError) × (Rescues old.inside result old.outside new.outside × (new ≡ record old { outside = new.outside; rescued = true }))

-- so they were where it is broken; else nothing was done
abbrev pub IsRescuedIf : Option ℕ → HeldEngine → HeldEngine → Type 0
IsRescuedIf None old new = new ≡ old
IsRescuedIf (Some at) old new = IsRescued old new
