-- An engine that is played at a desk: what it is seen as, what a move on it answers, and what a look at it shows.
use Rattle.std.specs.Prelude.{◌≡◌, ◌≤◌, ◌⊎◌, ℕ, true, false, is_some, List, [], ◌∷◌, ◌++◌, length, IfSome, None, Ok, Err}
use Rattle.std.specs.declared.option.Option.{Option}
use Rattle.std.specs.declared.result.Result.{Result}
use Rattle.session_events.specs.declared.event.Event.{Event}
use Rattle.session_events.specs.declared.event.Answered.{Answered}
use Rattle.session_events.specs.declared.event.Entry.{Entry}
use Rattle.session_events.specs.declared.event.Output.{Output}
use Rattle.session_events.specs.declared.fault.StepFault.{StepFault}
use Rattle.session_events.specs.declared.fault.StepFault.TheVariants.{NoMemory}
use Rattle.session_events.specs.Entries.{entry_with, is_leave}
use Rattle.session_events.specs.Legal.{Away, is_here, presence_from, IsLegal}
use Rattle.session_events.specs.Missing.{has_missed}
use Rattle.kak_world.specs.declared.world.TheConstants.{MAX_CLIENTS}
use Rattle.kak_engine.specs.Honesty.{Outside}
use Rattle.kak_engine.specs.Held.{HeldEngine, new_engine, refused_at, marked_by}
use Rattle.kak_engine.specs.Seating.{WasClosed}
use Rattle.kak_engine.specs.Steps.{run, given_by, parting_by, AreAskedFor}
use Rattle.engine_desk.specs.declared.glimpse.Glimpse.{Glimpse}
use Rattle.session_events.specs.Counting.{here_among, joined_among, comings}

-- what no move changes: how many entries the history may have, leavings aside, and the outside as it was at first
pub record Frame : Type 0 where
  pub limit : ℕ
  pub first : Outside

-- an engine at a desk: what it holds, and the outside as it was at first
pub record Shared : Type 0 where
  pub engine : HeldEngine
  pub first : Outside

abbrev pub frame_of : Shared → Frame
frame_of shared = record { limit = shared.engine.limit; first = shared.first }

-- an engine to which nothing happened
abbrev pub new_shared : Outside → ℕ → Shared
new_shared outside limit = record {
  engine = new_engine outside limit;
  first = outside;
}

-- since an engine was made whose session is over, its outside was asked for what its history says and was honest, and for nothing
-- else, but where it broke: then for a beginning of what one event more asks for, and that its texts be rescued
abbrev pub WasAskedJustThat : Shared → Type 0
WasAskedJustThat shared = WasClosed shared.engine.history shared.engine.mark shared.engine.inside shared.first shared.engine.outside

-- the texts of an engine were rescued where it broke, and only there
abbrev pub IsRescuedWhereBroken : Shared → Type 0
IsRescuedWhereBroken shared = shared.engine.rescued ≡ is_some shared.engine.mark

-- What stands beside an engine is as its history and its mark say, with room for the numbers of all that may be here.
pub record IsBeside (held : HeldEngine) (here : List ℕ) (room joins : ℕ) (mark : Option ℕ) : Type 0 where
  pub here_is : here_among held.history ≡ here
  pub joins_is : comings held.history ≡ joins
  pub mark_is : held.mark ≡ mark
  pub few : length here ≤ MAX_CLIENTS
  pub fits : MAX_CLIENTS ≤ room

-- what a client is shown of an engine
abbrev pub glimpse_of : Option ℕ → ℕ → List Entry → Glimpse
glimpse_of mark who history = record { stale = has_missed who history; joined = joined_among history; joins = comings history; broken = mark }

-- What a look at an engine shows; its history is one that there can be.
pub record Shows (frame : Frame) (history : List Entry) (mark : Option ℕ) (who : ℕ) (glimpse : Glimpse) : Type 0 where
  pub is : glimpse ≡ glimpse_of mark who history
  pub legal : IsLegal frame.limit history

-- the mark behind a move that was refused: only want of memory sets it, where it isn't set
abbrev pub marked_behind : StepFault → Option ℕ → ℕ → Option ℕ
marked_behind NoMemory mark count = marked_by mark count
marked_behind _ mark count = mark

-- A move that was taken: nothing refuses it, and its entry was added with what the outside answered, which is what was asked
-- for. The output is what this entry gives its client. The longer history is one that there can be, and the client is here
-- behind it unless it left.
pub record TakesMove (limit : ℕ) (before : List Entry) (mark : Option ℕ) (who : ℕ) (event : Event) (output : Output) (after : List Entry) (marked : Option ℕ) : Type 0 where
  pub answers : List Answered
  pub granted : refused_at mark before limit who event ≡ None
  pub stands : after ≡ before ++ entry_with who event answers ∷ []
  pub asked : AreAskedFor who event answers (run before)
  pub is : output ≡ given_by before (entry_with who event answers)
  pub legal : IsLegal limit after
  pub here : is_leave event ≡ false → is_here (presence_from who Away after) ≡ true
  pub mark_is : marked ≡ mark

-- A move that was refused, for the first reason that holds; where none does memory was wanting, which it is for no leaving but
-- where a hook is held, and which sets the mark. No entry was added, and the history is one that there can be.
pub record RefusesMove (limit : ℕ) (before : List Entry) (mark : Option ℕ) (who : ℕ) (event : Event) (fault : StepFault) (after : List Entry) (marked : Option ℕ) : Type 0 where
  pub why : IfSome (refused_at mark before limit who event) (λ due. fault ≡ due)
  pub wanting : refused_at mark before limit who event ≡ None → (fault ≡ NoMemory) × ((is_leave event ≡ false) ⊎ (parting_by before ≡ true))
  pub stands : after ≡ before
  pub legal : IsLegal limit before
  pub mark_is : marked ≡ marked_behind fault mark (length before)

-- what a move of a client answers
abbrev pub MoveAnswers : Frame → List Entry → Option ℕ → ℕ → Event → Result Output StepFault → List Entry → Option ℕ → Type 0
MoveAnswers frame before mark who event (Ok output) after marked = TakesMove frame.limit before mark who event output after marked
MoveAnswers frame before mark who event (Err fault) after marked = RefusesMove frame.limit before mark who event fault after marked
