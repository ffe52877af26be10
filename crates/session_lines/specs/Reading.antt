-- What the reading of a connection's input did.
use Rattle.std.specs.Prelude.{◌≡◌, ℕ, ◌<◌, ◌≤◌, ◌⊎◌, Bool, true, false, List, [], ◌∷◌, ◌++◌, length, flat_map, ⊤, Ok, Err}
use Rattle.std.specs.declared.result.Result.{Result}
use Rattle.kak_ports.specs.Ports.{Inlet, Rose}
use Rattle.session_turns.specs.Lines.{whole_lines}
use Rattle.session_turns.specs.Histories.{Answer, own, is_leaving}
use Rattle.session_turns.specs.Turns.{Turn, Phase, Protocol, During, Idle, later, lines_among, plays, answers_to}
use Rattle.session_turns.specs.Growth.{Begins, How, Whole, Over}
use Rattle.session_events.specs.declared.event.Event.{Event}
use Rattle.session_events.specs.declared.event.Event.TheVariants.{Leave}
use Rattle.session_events.specs.declared.event.Entry.{Entry}
use Rattle.session_events.specs.Meaning.{Gives, rules}
use Rattle.session_events.specs.Missing.{has_missed}
use Rattle.session_events.specs.Seats.{Seated}
use Rattle.line_reading.specs.declared.limits.TheConstants.{MAX_INPUT, MAX_PIECE}
use Rattle.line_reading.specs.Reading.{IsAll}
use Rattle.session_lines.specs.declared.playing.Stop.{Stop}
use Rattle.session_lines.specs.declared.playing.Stop.TheVariants as stop
use Rattle.session_lines.specs.declared.reading.InputEnd.{InputEnd}
use Rattle.session_lines.specs.declared.reading.InputEnd.TheVariants.{Left, Ended, ReadFault, Full}
use Rattle.session_lines.specs.Serving.{how_of}

-- how the phases of the lines got on
abbrev pub how_read : Result InputEnd Stop → How
how_read (Ok Left) = Over
how_read (Ok _) = Whole
how_read (Err stop) = how_of (Err stop)

-- Of some turns the first ones are those of the lines that some bytes complete, and the client wasn't let go in the
-- phases before them, nor in these.
pub record WasKept (protocol : Protocol Event) (first : List Phase) (turns : List Turn) (got : List (Answer Event)) (bytes : List ℕ) : Type 0 where
  pub front : List Turn
  pub behind : List Turn
  pub cut : turns ≡ front ++ behind
  pub lines : lines_among front ≡ whole_lines [] bytes
  pub stays : is_leaving (answers_to protocol (first ++ later front) got) ≡ false

-- the client was let go in the phases before all turns, and nothing was taken
abbrev pub WasLetGoFirst : Protocol Event → List Phase → List (Answer Event) → List ℕ → Type 0
WasLetGoFirst protocol first got bytes = (is_leaving (answers_to protocol first got) ≡ true) × (bytes ≡ [])

-- The client was let go in the last piece of the bytes, which is no longer than what one take gives: nothing was taken
-- behind the piece with the line that let it go.
pub record WasLetGoLast (protocol : Protocol Event) (first : List Phase) (turns : List Turn) (got : List (Answer Event)) (left : Inlet) (bytes : List ℕ) : Type 0 where
  pub before : List ℕ
  pub piece : List ℕ
  pub cut : bytes ≡ before ++ piece
  pub one : length piece ≤ MAX_PIECE
  pub most : length piece ≤ left.most
  pub kept : WasKept protocol first turns got before

-- All but the last piece of the bytes, which is no longer than what one take gives, completes lines of these phases alone.
pub record IsTakenFor (before first : List Phase) (left : Inlet) (bytes : List ℕ) : Type 0 where
  pub early : List ℕ
  pub piece : List ℕ
  pub cut : bytes ≡ early ++ piece
  pub one : length piece ≤ MAX_PIECE
  pub most : length piece ≤ left.most
  pub front : List Turn
  pub lines : lines_among front ≡ whole_lines [] early
  pub inside : Begins before (first ++ later front)

-- Playing stopped in a phase, and all events of the phases before it were answered. Nothing was taken behind the piece with
-- the line of that phase.
pub record WasStopped (protocol : Protocol Event) (first : List Phase) (turns : List Turn) (got : List (Answer Event)) (left : Inlet) (bytes : List ℕ) : Type 0 where
  pub before : List Phase
  pub at : Phase
  pub behind : List Phase
  pub split : first ++ later turns ≡ before ++ at ∷ behind
  pub answered : length (flat_map (plays protocol) before) ≤ length got
  pub needed : (bytes ≡ []) ⊎ IsTakenFor before first left bytes

-- a phase is due to a client that has seen these entries: its opening, a line, or a drawing of what it has missed
abbrev pub IsDueStill : ℕ → List Entry → Phase → Type 0
IsDueStill who seen (During Idle) = has_missed who seen ≡ true
IsDueStill who seen _ = ⊤

-- The client had missed something, behind all of its own entries but its leaving.
pub record HadMissed (gives : Gives) (who : ℕ) (history : List Entry) : Type 0 where
  pub before : List Entry
  pub behind : List Entry
  pub cut : history ≡ before ++ behind
  pub leaves : own (rules gives) who behind ≡ Leave ∷ []
  pub missed : has_missed who before ≡ true

-- a phase was due so to a client that has left
abbrev pub WasDueStill : Gives → ℕ → List Entry → Phase → Type 0
WasDueStill gives who history (During Idle) = HadMissed gives who history
WasDueStill gives who history _ = ⊤

-- an event of that phase was refused, which was due
abbrev pub WasRefused : Protocol Event → (Phase → Type 0) → List Phase → List Turn → List (Answer Event) → Inlet → List ℕ → Type 0
WasRefused protocol due first turns got left bytes =
    (w : WasStopped protocol first turns got left bytes) × (length got < length (flat_map (plays protocol) (w.before ++ w.at ∷ []))) × due w.at

-- all events of that phase were answered, and none behind it
abbrev pub WasUnsent : Protocol Event → List Phase → List Turn → List (Answer Event) → Inlet → List ℕ → Type 0
WasUnsent protocol first turns got left bytes =
    (w : WasStopped protocol first turns got left bytes) × (length got ≡ length (flat_map (plays protocol) (w.before ++ w.at ∷ [])))

-- At each end of the reading: the client was let go before all turns, in the last piece, or in a last part where the input
-- has ended; an input that ended is the bytes that were taken; one that is too long gave all that may be taken. Where the
-- history was full, or a write failed, no more was taken than for the phase in which that was met; and what had no room in
-- the history was due.
abbrev pub EndIs : Protocol Event → (Phase → Type 0) → List Phase → List Turn → List (Answer Event) → Result InputEnd Stop → Inlet → List ℕ → Type 0
EndIs protocol due first turns got (Ok Left) left bytes =
    WasLetGoFirst protocol first got bytes ⊎ (WasLetGoLast protocol first turns got left bytes ⊎ (IsAll left bytes × WasKept protocol first turns got bytes))
EndIs protocol due first turns got (Ok Ended) left bytes = IsAll left bytes
EndIs protocol due first turns got (Ok Full) left bytes = length bytes ≡ MAX_INPUT
EndIs protocol due first turns got (Err stop.HistoryFull) left bytes = WasRefused protocol due first turns got left bytes
EndIs protocol due first turns got (Err stop.WriteFault) left bytes = WasUnsent protocol first turns got left bytes
EndIs protocol due first turns got _ left bytes = ⊤

-- a read fault is told only where the count of the source's faults rose, and else none was met, unless the session was
-- broken when the client was to leave
abbrev pub FaultIs : Result InputEnd Stop → Inlet → Inlet → Type 0
FaultIs (Ok ReadFault) left rest = Rose left.faults rest.faults
FaultIs (Ok _) left rest = rest.faults ≡ left.faults
FaultIs (Err (stop.Broken at)) left rest = (rest.faults ≡ left.faults) ⊎ Rose left.faults rest.faults
FaultIs (Err _) left rest = rest.faults ≡ left.faults

-- and behind the client's leaving: where memory was wanting in that, as something is run by which a client goes, a read fault may
-- have been met before
abbrev pub EndFaultIs : (List Entry → Bool) → Result InputEnd Stop → Seated → Inlet → Inlet → Type 0
EndFaultIs parting (Ok ending) seat left rest = FaultIs (Ok ending) left rest
EndFaultIs parting (Err stop.NoMemory) seat left rest = (rest.faults ≡ left.faults) ⊎ ((parting seat.seen ≡ true) × Rose left.faults rest.faults)
EndFaultIs parting (Err why) seat left rest = FaultIs (Err why) left rest
