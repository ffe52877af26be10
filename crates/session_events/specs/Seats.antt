-- What a seat is seen as, and what a step from it does.
use Rattle.std.specs.Prelude.{◌≡◌, ◌≤◌, ◌⊎◌, ℕ, Bool, true, false, List, [], ◌∷◌, ◌++◌, length, ⊤, Some, None, Err}
use Rattle.std.specs.declared.option.Option.{Option}
use Rattle.std.specs.declared.result.Result.{Result}
use Rattle.session_turns.specs.Histories.{own}
use Rattle.session_events.specs.declared.event.Event.{Event}
use Rattle.session_events.specs.declared.event.Answered.{Answered}
use Rattle.session_events.specs.declared.event.Entry.{Entry}
use Rattle.session_events.specs.declared.event.Output.{Output}
use Rattle.session_events.specs.declared.fault.StepFault.{StepFault}
use Rattle.session_events.specs.declared.fault.StepFault.TheVariants.{Broken, NoClient, Joined, HistoryFull, Full, NoMemory}
use Rattle.session_events.specs.Entries.{is_join, is_leave, entry_with, others_of, has_joined}
use Rattle.session_events.specs.Legal.{Away, is_here, presence_from, IsLegal}
use Rattle.session_events.specs.Meaning.{Gives, rules}

-- A seat.
pub record Seated : Type 0 where
  -- the client's number
  pub number : ℕ
  -- how many entries the history may have, leavings aside
  pub limit : ℕ
  -- how many entries stood when the session broke, if it was seen to have broken
  pub mark : Option ℕ
  -- the entries that were seen
  pub seen : List Entry
  -- the entries of others among them, where no other client plays from now on
  pub others : Option (List Entry)

-- The seat is that client's still, with the limit that it had; and where no other client plays, no entry of another came.
pub record IsSameSeat (old new : Seated) : Type 0 where
  pub number : new.number ≡ old.number
  pub limit : new.limit ≡ old.limit
  pub others : new.others ≡ old.others

-- no other client plays
abbrev pub IsAlone : Seated → Type 0
IsAlone seat = seat.others ≡ Some (others_of seat.number seat.seen)

-- the seat of another client, while nobody else plays
abbrev pub turned_to : ℕ → Seated → Seated
turned_to who seat = record { number = who; limit = seat.limit; mark = seat.mark; seen = seat.seen; others = Some (others_of who seat.seen) }

-- the entries seen are a history that there can be
abbrev pub IsLegalSeat : Seated → Type 0
IsLegalSeat seat = IsLegal seat.limit seat.seen

-- the client is here behind the entries seen: it has come, and hasn't gone
abbrev pub IsIn : Seated → Type 0
IsIn seat = is_here (presence_from seat.number Away seat.seen) ≡ true

-- An event of the client was taken: entries of others may have come before its own, and the output is what its entry
-- gives behind all of them.
pub record Steps (gives : Gives) (old new : Seated) (event : Event) (output : Output) : Type 0 where
  pub between : List Entry
  pub answers : List Answered
  pub foreign : own (rules gives) old.number between ≡ []
  pub stands : new.seen ≡ old.seen ++ between ++ entry_with old.number event answers ∷ []
  pub is : output ≡ gives (old.seen ++ between) (entry_with old.number event answers)

-- Entries of others came, and none of the client's own.
pub record Sees (gives : Gives) (old new : Seated) : Type 0 where
  pub between : List Entry
  pub foreign : own (rules gives) old.number between ≡ []
  pub stands : new.seen ≡ old.seen ++ between

-- the session isn't seen to be broken, unless a step said that it is
abbrev pub StaysUnbroken : {A : Type 0} → Result A StepFault → Seated → Type 0
StaysUnbroken (Err (Broken at)) seat = ⊤
StaysUnbroken (Err NoMemory) seat = ⊤
StaysUnbroken _ seat = seat.mark ≡ None

-- Why an event was refused, as the entries and the mark that were then seen say, where it is told whether no further client
-- may come behind some entries, and whether something is run there where a client goes. Memory is wanting for no leaving unless
-- something is, and where it was wanting, the session has a mark from then on.
abbrev pub Refuses : (List Entry → Bool) → (List Entry → Bool) → StepFault → Seated → Event → Type 0
Refuses crowded parting (Broken at) seat event = seat.mark ≡ Some at
Refuses crowded parting (NoClient who) seat event = (who ≡ seat.number) × (is_join event ≡ false) × (is_here (presence_from seat.number Away seat.seen) ≡ false)
Refuses crowded parting (Joined who) seat event = (who ≡ seat.number) × (is_join event ≡ true) × (has_joined seat.number seat.seen ≡ true)
Refuses crowded parting HistoryFull seat event = (is_leave event ≡ false) × (seat.limit ≤ length seat.seen)
Refuses crowded parting Full seat event = (is_join event ≡ true) × (crowded seat.seen ≡ true)
Refuses crowded parting NoMemory seat event = ((is_leave event ≡ false) ⊎ (parting seat.seen ≡ true)) × ((at : ℕ) × (seat.mark ≡ Some at))
