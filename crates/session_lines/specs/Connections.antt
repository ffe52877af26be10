-- A whole connection: what was read of its input, what its history is, and what it was sent.
use Rattle.std.specs.Prelude.{◌≡◌, ℕ, ◌≤◌, ◌<◌, Bool, true, false, List, [], ◌∷◌, ◌++◌, length, Ok, Err}
use Rattle.std.specs.declared.result.Result.{Result}
use Rattle.std.specs.Io.KnownBytes.{Appends, Consumes}
use Rattle.kak_ports.specs.Ports.{Inlet, Outlet}
use Rattle.session_turns.specs.Histories.{answers}
use Rattle.session_turns.specs.Turns.{Turn, Phase, Opening, later, turns_of, lines_among}
use Rattle.session_turns.specs.Headline.{End, Left as WasLeft, Closed, Cut, Refused, Unwritten, Lost, LinesRead, IsServed}
use Rattle.session_events.specs.declared.event.Entry.{Entry}
use Rattle.session_events.specs.Meaning.{rules}
use Rattle.session_events.specs.Seats.{Seated}
use Rattle.session_lines.specs.declared.playing.Stop.{Stop}
use Rattle.session_lines.specs.declared.playing.Stop.TheVariants.{HistoryFull, WriteFault}
use Rattle.line_reading.specs.declared.limits.TheConstants.{MAX_INPUT}
use Rattle.line_reading.specs.Reading.{IsAll}
use Rattle.session_lines.specs.declared.reading.InputEnd.{InputEnd}
use Rattle.session_lines.specs.declared.reading.InputEnd.TheVariants.{Left, Ended, ReadFault, Full}
use Rattle.session_lines.specs.Stops.{NoneFailed, Causes}
use Rattle.session_lines.specs.Serving.{Service, Serves}
use Rattle.session_lines.specs.Reading.{how_read, IsDueStill, WasDueStill, EndIs}

-- how a connection ended
abbrev pub connection_end : Result InputEnd Stop → End
connection_end (Ok Left) = WasLeft
connection_end (Ok Ended) = Closed
connection_end (Ok ReadFault) = Cut
connection_end (Ok Full) = Cut
connection_end (Err HistoryFull) = Refused
connection_end (Err WriteFault) = Unwritten
connection_end (Err _) = Lost

-- whether a write failed
abbrev pub is_unwritten : Result InputEnd Stop → Bool
is_unwritten (Err WriteFault) = true
is_unwritten _ = false

-- each turn is a line: the client is drawn where it asked for it
abbrev pub AreAsked : List Turn → Type 0
AreAsked turns = turns ≡ turns_of (lines_among turns)

-- Behind some first phases turns were played, whose lines are those of an input. Where nothing comes unasked, they are
-- these lines.
pub record Plays (unasked : Bool) (first : List Phase) (with : Service) (old new : Seated) (before now : Outlet) (left rest : Inlet) (result : Result InputEnd Stop) : Type 0 where
  pub bytes : List ℕ
  pub takes : Consumes left.left rest.left bytes
  pub few : length bytes ≤ MAX_INPUT
  pub turns : List Turn
  pub lines_are : LinesRead (connection_end result) (IsAll left bytes) bytes (lines_among turns)
  pub asked : unasked ≡ false → AreAsked turns
  pub serves : Serves with old new before now (how_read result) (first ++ later turns)
  pub end_is : EndIs with.protocol (IsDueStill old.number new.seen) first turns serves.got result left bytes

-- A connection was served: these bytes were read, no more than may be, these were sent, and the history is what serving
-- the lines that were read makes, with drawings between them that nobody asked for only where these may come.
pub record WasServed (unasked : Bool) (with : Service) (who : ℕ) (history : List Entry) (before now : Outlet) (left rest : Inlet) (result : Result InputEnd Stop) : Type 0 where
  pub bytes : List ℕ
  pub takes : Consumes left.left rest.left bytes
  pub few : length bytes ≤ MAX_INPUT
  pub turns : List Turn
  pub asked : unasked ≡ false → AreAsked turns
  pub out : List ℕ
  pub sends : Appends before.told now.told out
  pub served : IsServed with.protocol (rules with.gives) (connection_end result) who history turns (IsAll left bytes) bytes out
  pub end_is : EndIs with.protocol (WasDueStill with.gives who history) (Opening ∷ []) turns (answers (rules with.gives) who history) result left bytes

-- why a connection ended, behind the client's leaving: a full history has more entries than it may have by that leaving
abbrev pub EndCauses : Result InputEnd Stop → Seated → Outlet → Outlet → Type 0
EndCauses (Err HistoryFull) seat before now = (seat.limit < length seat.seen) × NoneFailed before now
EndCauses result seat before now = Causes result seat before now
