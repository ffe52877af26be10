-- What the playing of phases did to the history and to the bytes that were sent.
use Rattle.std.specs.Prelude.{◌≡◌, ℕ, ◌<◌, Bool, true, false, List, [], ◌∷◌, ◌++◌, length, ⊤, Ok, Err}
use Rattle.std.specs.declared.result.Result.{Result}
use Rattle.std.specs.Io.KnownBytes.{Appends}
use Rattle.kak_ports.specs.Ports.{Outlet}
use Rattle.key_names.specs.declared.key.Key.{Key}
use Rattle.requests.specs.Reading.{Reads}
use Rattle.json_writing.specs.Drawings.{drawing_bytes}
use Rattle.json_writing.specs.Refusals.{refusal_bytes}
use Rattle.session_turns.specs.Histories.{Answer, own, answers, events_of, bytes_of, is_leaving}
use Rattle.session_turns.specs.Turns.{Phase, Protocol, Opening, later, turns_of}
use Rattle.session_turns.specs.Growth.{Begins, How, Whole, Over, Short, Unsent, Lost, Fits, Adds}
use Rattle.session_events.specs.declared.event.Event.{Event}
use Rattle.session_events.specs.declared.event.Event.TheVariants.{Join, Refresh, Leave}
use Rattle.session_events.specs.declared.event.Answered.{Answered}
use Rattle.session_events.specs.declared.event.Entry.{Entry}
use Rattle.session_events.specs.Entries.{entry_with}
use Rattle.session_events.specs.Meaning.{Gives, rules}
use Rattle.session_events.specs.Seats.{Seated, Sees}
use Rattle.session_lines.specs.declared.playing.Stop.{Stop}
use Rattle.session_lines.specs.declared.playing.Stop.TheVariants as stop
use Rattle.session_lines.specs.declared.playing.Telling.{Telling}
use Rattle.session_lines.specs.declared.playing.Telling.TheVariants.{Nothing, Drawn, Refused}
use Rattle.session_lines.specs.declared.playing.Reply.{Reply}
use Rattle.session_lines.specs.Session.{protocol}
use Rattle.session_lines.specs.Stops.{IsLoss}

-- what a client is told, in bytes
abbrev pub telling_bytes : Telling → List ℕ
telling_bytes Nothing = []
telling_bytes (Drawn drawing) = drawing_bytes drawing
telling_bytes (Refused refusal) = refusal_bytes refusal

-- The client has come and made no event since; it was let go by its coming, or not.
pub record HasOnlyCome (gives : Gives) (seat : Seated) (let_go : Bool) : Type 0 where
  pub comes : own (rules gives) seat.number seat.seen ≡ Join ∷ []
  pub let_go_is : is_leaving (answers (rules gives) seat.number seat.seen) ≡ let_go

-- events were all taken, with these answers
pub record AreTaken (gives : Gives) (old new : Seated) (events : List Event) (out : List ℕ) (leaving : Bool) : Type 0 where
  pub got : List (Answer Event)
  pub adds : Adds (rules gives) old.number old.seen new.seen got
  pub events_are : events_of got ≡ events
  pub bytes : out ≡ bytes_of got
  pub leaving_is : is_leaving got ≡ leaving

-- where the history is full, events are left out
abbrev pub LeavesOut : Stop → ℕ → ℕ → Type 0
LeavesOut stop.HistoryFull got events = got < events
LeavesOut _ got events = ⊤

-- of the events only a beginning was taken
pub record AreCut (gives : Gives) (old new : Seated) (events : List Event) (why : Stop) : Type 0 where
  pub got : List (Answer Event)
  pub adds : Adds (rules gives) old.number old.seen new.seen got
  pub begins : Begins events (events_of got)
  pub short : LeavesOut why (length got) (length events)

-- events that draw nothing were taken, or a beginning of them
abbrev pub TakesEvents : Gives → Seated → Seated → List Event → Result Bool Stop → Type 0
TakesEvents gives old new events (Ok leaving) = AreTaken gives old new events [] leaving
TakesEvents gives old new events (Err why) = AreCut gives old new events why

-- the client was drawn, whether it asked for it or not, by which it may not leave, or its drawing was refused
abbrev pub TakesDrawing : Gives → Bool → Seated → Seated → Result Telling Stop → Type 0
TakesDrawing gives asked old new (Ok telling) = AreTaken gives old new (Refresh asked ∷ []) (telling_bytes telling) false
TakesDrawing gives asked old new (Err why) = AreCut gives old new (Refresh asked ∷ []) why

-- A phase was played: its events were taken, and the client is to be told what they gave and then what the phase says itself.
pub record IsAnswered (gives : Gives) (old new : Seated) (events : List Event) (said : List ℕ) (reply : Reply) : Type 0 where
  pub out : List ℕ
  pub taken : AreTaken gives old new events out reply.leaving
  pub told : telling_bytes reply.telling ≡ out ++ said

-- a phase was played, or a beginning of its events was taken
abbrev pub PhaseAnswers : Gives → Seated → Seated → List Event → List ℕ → Result Reply Stop → Type 0
PhaseAnswers gives old new events said (Ok reply) = IsAnswered gives old new events said reply
PhaseAnswers gives old new events said (Err why) = AreCut gives old new events why

-- The client left: entries of others may have come before its leaving.
pub record HasGone (gives : Gives) (old new : Seated) : Type 0 where
  pub between : List Entry
  pub answers : List Answered
  pub foreign : own (rules gives) old.number between ≡ []
  pub stands : new.seen ≡ old.seen ++ between ++ entry_with old.number Leave answers ∷ []

-- the client left, or something was lost, and nothing was added
abbrev pub Leaves : {A : Type 0} → Gives → (List Entry → Bool) → Seated → Seated → Result A Stop → Type 0
Leaves gives parting old new (Ok _) = HasGone gives old new
Leaves gives parting old new (Err why) = Sees gives old new × IsLoss parting why new

-- how phases got on: the client stays, or may leave; the history was full; a write failed; or something was lost
abbrev pub how_of : Result Bool Stop → How
how_of (Ok false) = Whole
how_of (Ok true) = Over
how_of (Err stop.HistoryFull) = Short
how_of (Err stop.WriteFault) = Unsent
how_of (Err _) = Lost

-- What a connection is served with: what entries give, and what it plays and says.
pub record Service : Type 0 where
  pub gives : Gives
  pub protocol : Protocol Event

-- what a connection of the editor is served with, where these keys are struck before its first drawing
abbrev pub service : Gives → Reads → List Key → Service
service gives reads opens = record { gives = gives; protocol = protocol reads opens }

-- phases were played: the history grew by the client's part of them, and the bytes that were sent by what they send
pub record Serves (with : Service) (old new : Seated) (before now : Outlet) (how : How) (all : List Phase) : Type 0 where
  pub got : List (Answer Event)
  pub out : List ℕ
  pub adds : Adds (rules with.gives) old.number old.seen new.seen got
  pub sends : Appends before.told now.told out
  pub fits : Fits with.protocol how all got out

-- the phases that some lines are
abbrev pub line_phases : List (List ℕ) → List Phase
line_phases lines = later (turns_of lines)

-- a seat from which no entry was seen yet
abbrev pub unseen : Seated → Seated
unseen seat = record seat { seen = [] }

-- a line was played, whatever keys the connection was opened with
abbrev pub PlaysLine : Gives → Reads → Seated → Seated → Outlet → Outlet → List ℕ → Result Bool Stop → Type 0
PlaysLine gives reads old new before now line result = (opens : List Key) → Serves (service gives reads opens) old new before now (how_of result) (line_phases (line ∷ []))

-- a connection was opened with these keys, whatever its lines are read as; its client's coming is a part of that
abbrev pub OpensWith : Gives → List Key → Seated → Seated → Outlet → Outlet → Result Bool Stop → Type 0
OpensWith gives opens old new before now result = (reads : Reads) → Serves (service gives reads opens) (unseen old) new before now (how_of result) (Opening ∷ [])

-- where the client stays and nothing stopped, what has come of the next line is kept
abbrev pub KeepsLinePart : Result Bool Stop → List ℕ → List ℕ → Type 0
KeepsLinePart (Ok false) kept part = kept ≡ part
KeepsLinePart _ kept part = ⊤
