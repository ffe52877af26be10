-- What stays over the playing of phases, and why playing stops.
use Rattle.std.specs.Prelude.{◌≡◌, ◌≤◌, ℕ, Bool, true, List, length, ⊤, Some, None, Ok, Err}
use Rattle.std.specs.declared.option.Option.{Option}
use Rattle.std.specs.declared.result.Result.{Result}
use Rattle.kak_ports.specs.Ports.{Outlet, Rose}
use Rattle.session_events.specs.declared.event.Entry.{Entry}
use Rattle.session_events.specs.Seats.{Seated, IsSameSeat, IsIn, IsLegalSeat}
use Rattle.session_lines.specs.declared.playing.Stop.{Stop}
use Rattle.session_lines.specs.declared.playing.Stop.TheVariants.{HistoryFull, Broken, NoMemory, WriteFault}

-- The client is joined, behind entries that are a history that there can be.
pub record IsReady (seat : Seated) : Type 0 where
  pub joined : IsIn seat
  pub legal : IsLegalSeat seat

-- The seat is that client's still, with the limit that it had, and the client is joined.
pub record Stays (old new : Seated) : Type 0 where
  pub same : IsSameSeat old new
  pub ready : IsReady new

-- the history has as many entries as it may have
abbrev pub IsFull : Seated → Type 0
IsFull seat = seat.limit ≤ length seat.seen

-- no write failed
abbrev pub NoneFailed : Outlet → Outlet → Type 0
NoneFailed before now = now.faults ≡ before.faults

-- why events are stopped: the history is full, the session is broken, or memory was wanting; nothing is written here
abbrev pub StopsFor : Stop → Seated → Type 0
StopsFor HistoryFull seat = IsFull seat
StopsFor (Broken at) seat = seat.mark ≡ Some at
StopsFor NoMemory seat = ⊤
StopsFor WriteFault seat = ⊥

abbrev pub Stops : {A : Type 0} → Result A Stop → Seated → Type 0
Stops (Ok _) seat = ⊤
Stops (Err why) seat = StopsFor why seat

-- why phases are stopped: as events are, and then no write failed; or by a write that did, which the sink counted
abbrev pub CausedBy : Stop → Seated → Outlet → Outlet → Type 0
CausedBy HistoryFull seat before now = IsFull seat × NoneFailed before now
CausedBy (Broken at) seat before now = (seat.mark ≡ Some at) × NoneFailed before now
CausedBy NoMemory seat before now = NoneFailed before now
CausedBy WriteFault seat before now = Rose before.faults now.faults

abbrev pub Causes : {A : Type 0} → Result A Stop → Seated → Outlet → Outlet → Type 0
Causes (Ok _) seat before now = NoneFailed before now
Causes (Err why) seat before now = CausedBy why seat before now

-- why a leaving fails: the session is broken; or memory was wanting, where something is run by which a client goes
abbrev pub IsLoss : (List Entry → Bool) → Stop → Seated → Type 0
IsLoss parting (Broken at) seat = seat.mark ≡ Some at
IsLoss parting NoMemory seat = parting seat.seen ≡ true
IsLoss parting _ seat = ⊥

-- a session that had no mark has none still
abbrev pub IsWholeStill : Option ℕ → Option ℕ → Type 0
IsWholeStill old new = old ≡ None → new ≡ None

-- so it is where playing stopped for anything but a break or want of memory
abbrev pub StaysWholeFor : Stop → Option ℕ → Option ℕ → Type 0
StaysWholeFor (Broken at) old new = ⊤
StaysWholeFor NoMemory old new = ⊤
StaysWholeFor _ old new = IsWholeStill old new

abbrev pub StaysWhole : {A : Type 0} → Result A Stop → Option ℕ → Option ℕ → Type 0
StaysWhole (Ok _) old new = IsWholeStill old new
StaysWhole (Err why) old new = StaysWholeFor why old new
