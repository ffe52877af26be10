-- A whole connection over a link: how it ended, why, and what stands in the history and went over the link then.
use Rattle.std.specs.Prelude.{◌≡◌, ℕ, ◌<◌, ◌⊎◌, Bool, true, List, [], ◌∷◌, ◌++◌, length, ⊤, Ok, Err, None, Some}
use Rattle.std.specs.declared.result.Result.{Result}
use Rattle.std.specs.Io.KnownBytes.{Appends}
use Rattle.kak_ports.specs.Ports.{Rose}
use Rattle.session_turns.specs.Histories.{own}
use Rattle.session_events.specs.declared.event.Event.TheVariants.{Leave}
use Rattle.session_events.specs.declared.event.Answered.{Answered}
use Rattle.session_events.specs.declared.event.Entry.{Entry}
use Rattle.session_events.specs.Entries.{entry_with}
use Rattle.session_events.specs.Meaning.{Gives, rules}
use Rattle.session_events.specs.Seats.{Seated}
use Rattle.client_links.specs.Wires.{Wire}
use Rattle.line_reading.specs.Hearing.{inlet_of}
use Rattle.session_lines.specs.declared.playing.Stop.{Stop}
use Rattle.session_lines.specs.declared.playing.Stop.TheVariants as stop
use Rattle.session_lines.specs.declared.reading.InputEnd.{InputEnd}
use Rattle.session_lines.specs.declared.reading.InputEnd.TheVariants as input
use Rattle.session_lines.specs.Connections.{WasServed}
use Rattle.session_lines.specs.Serving.{Service}
use Rattle.session_lines.specs.Stops.{IsFull, NoneFailed}
use Rattle.link_lines.specs.declared.ended.Ended.{Ended}
use Rattle.link_lines.specs.declared.ended.Ended.TheVariants.{Left, Closed, LinkRead, LinkWrite, InputFull, HistoryFull, Full, Broken, NoMemory}

-- how a serving ends of which so much was played
abbrev pub ended_of : Result InputEnd Stop → Ended
ended_of (Ok input.Left) = Left
ended_of (Ok input.Ended) = Closed
ended_of (Ok input.ReadFault) = LinkRead
ended_of (Ok input.Full) = InputFull
ended_of (Err stop.WriteFault) = LinkWrite
ended_of (Err stop.HistoryFull) = HistoryFull
ended_of (Err (stop.Broken at)) = Broken at
ended_of (Err stop.NoMemory) = NoMemory

-- and what was played where it ended so; where the session is full, the client's coming was refused
abbrev pub result_of : Ended → Result InputEnd Stop
result_of Left = Ok input.Left
result_of Closed = Ok input.Ended
result_of LinkRead = Ok input.ReadFault
result_of InputFull = Ok input.Full
result_of LinkWrite = Err stop.WriteFault
result_of HistoryFull = Err stop.HistoryFull
result_of Full = Err stop.HistoryFull
result_of (Broken at) = Err (stop.Broken at)
result_of NoMemory = Err stop.NoMemory

-- Behind a front the client has left: entries of others may stand before its leaving and behind it, and nothing else.
pub record HasParted (gives : Gives) (who : ℕ) (front history : List Entry) : Type 0 where
  pub between : List Entry
  pub answers : List Answered
  pub behind : List Entry
  pub foreign : own (rules gives) who between ≡ []
  pub last : own (rules gives) who behind ≡ []
  pub stands : history ≡ front ++ between ++ entry_with who Leave answers ∷ behind

-- The part of the history that a headline speaks of: where sending failed, what stands before the client's leaving, which
-- is no part of what is due then; else all.
abbrev pub PartsHistory : Gives → Ended → ℕ → List Entry → List Entry → Type 0
PartsHistory gives LinkWrite who front history = HasParted gives who front history
PartsHistory gives _ who front history = history ≡ front

-- A connection was served over a link: the bytes that were received stand behind those received before, and the history,
-- or its part before the leaving where sending failed, is what serving their lines makes.
pub record WasServedOver (with : Service) (who : ℕ) (history : List Entry) (before now : Wire) (ended : Ended) : Type 0 where
  pub front : List Entry
  pub served : WasServed true with who front before.outlet now.outlet (inlet_of before) (inlet_of now) (result_of ended)
  pub received : Appends before.received now.received served.bytes
  pub parting : PartsHistory with.gives ended who front history

-- the client has no entry
abbrev pub NeverCame : Gives → ℕ → List Entry → Type 0
NeverCame gives who history = own (rules gives) who history ≡ []

-- The client's leaving is the last entry.
pub record EndsInLeaving (who : ℕ) (history : List Entry) : Type 0 where
  pub before : List Entry
  pub answers : List Answered
  pub stands : history ≡ before ++ entry_with who Leave answers ∷ []

-- the client has left, at each end at which it came and the session isn't broken, and memory wasn't wanting for what is run where a
-- client goes
abbrev pub HasLeftAt : Gives → (List Entry → Bool) → Ended → ℕ → List Entry → Type 0
HasLeftAt gives parting Full who history = NeverCame gives who history
HasLeftAt gives parting HistoryFull who history = EndsInLeaving who history ⊎ NeverCame gives who history
HasLeftAt gives parting NoMemory who history = EndsInLeaving who history ⊎ (NeverCame gives who history ⊎ (parting history ≡ true))
HasLeftAt gives parting (Broken at) who history = ⊤
HasLeftAt gives parting _ who history = EndsInLeaving who history

-- nothing failed
abbrev pub NothingFailed : Wire → Wire → Type 0
NothingFailed before now = (now.read_faults ≡ before.read_faults) × NoneFailed before.outlet now.outlet

-- receiving failed, and was counted; no sending did
abbrev pub ReceivingFailed : Wire → Wire → Type 0
ReceivingFailed before now = Rose before.read_faults now.read_faults × NoneFailed before.outlet now.outlet

-- sending failed, and was counted; no receiving did
abbrev pub SendingFailed : Wire → Wire → Type 0
SendingFailed before now = (now.read_faults ≡ before.read_faults) × Rose before.outlet.faults now.outlet.faults

-- something failed, or nothing did
abbrev pub AnyFailed : Wire → Wire → Type 0
AnyFailed before now = NothingFailed before now ⊎ (ReceivingFailed before now ⊎ SendingFailed before now)

-- the history has more entries than it may have, by leavings; or it has as many as it may have, and the client never came
abbrev pub HasNoRoom : Gives → Seated → Type 0
HasNoRoom gives seat = (seat.limit < length seat.seen) ⊎ (NeverCame gives seat.number seat.seen × IsFull seat)

-- Why a serving ended, where it is told whether no further client may come behind some entries. Where the session is full,
-- that is so behind those that were seen, and nothing was received or sent. That a session is broken may be seen in the
-- leaving, behind any other end, and so may want of memory, where something is run by which a client goes.
abbrev pub EndsFor : Gives → (List Entry → Bool) → (List Entry → Bool) → Ended → Seated → Wire → Wire → Type 0
EndsFor gives crowded parting LinkRead seat before now = ReceivingFailed before now
EndsFor gives crowded parting LinkWrite seat before now = SendingFailed before now
EndsFor gives crowded parting HistoryFull seat before now = HasNoRoom gives seat × NothingFailed before now
EndsFor gives crowded parting Full seat before now = (crowded seat.seen ≡ true) × (now ≡ before)
EndsFor gives crowded parting (Broken at) seat before now = (seat.mark ≡ Some at) × AnyFailed before now
EndsFor gives crowded parting NoMemory seat before now = NothingFailed before now ⊎ ((parting seat.seen ≡ true) × AnyFailed before now)
EndsFor gives crowded parting _ seat before now = NothingFailed before now

-- the session isn't seen to be broken, unless that is told, or memory was wanting
abbrev pub IsUnbroken : Ended → Seated → Type 0
IsUnbroken (Broken at) seat = ⊤
IsUnbroken NoMemory seat = ⊤
IsUnbroken _ seat = seat.mark ≡ None

-- why the client couldn't come, of which the history has no entry then
abbrev pub JoinsNot : Gives → (List Entry → Bool) → Ended → Seated → Type 0
JoinsNot gives crowded HistoryFull seat = NeverCame gives seat.number seat.seen × IsFull seat
JoinsNot gives crowded Full seat = NeverCame gives seat.number seat.seen × (crowded seat.seen ≡ true)
JoinsNot gives crowded (Broken at) seat = NeverCame gives seat.number seat.seen × (seat.mark ≡ Some at)
JoinsNot gives crowded NoMemory seat = NeverCame gives seat.number seat.seen
JoinsNot gives crowded _ seat = ⊥
