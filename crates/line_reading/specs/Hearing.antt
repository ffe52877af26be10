-- What the hearing of a line does, which is read of a link as of a source whose takes may also find that none have come.
use Rattle.std.specs.Prelude.{◌≡◌, ℕ, List, [], Ok, Err}
use Rattle.std.specs.declared.result.Result.{Result}
use Rattle.std.specs.Io.KnownBytes.{Appends, IsAtEnd}
use Rattle.kak_ports.specs.Ports.{Inlet, Rose}
use Rattle.client_links.specs.declared.link.Heard.{Heard}
use Rattle.client_links.specs.declared.link.Heard.TheVariants.{Got, End}
use Rattle.client_links.specs.Wires.{Wire, HearsNothing}
use Rattle.line_reading.specs.declared.limits.TheConstants.{MAX_PIECE}
use Rattle.line_reading.specs.declared.reader.NextLine.{NextLine}
use Rattle.line_reading.specs.declared.reader.NextLine.TheVariants as next
use Rattle.line_reading.specs.declared.reader.Came.{Came}
use Rattle.line_reading.specs.declared.reader.Came.TheVariants.{Line, Last, Ended, Idle, ReadFault, Full}
use Rattle.line_reading.specs.Pieces.{IsPieceTaken}
use Rattle.line_reading.specs.Reading.{Reading, ReadsCounted}

-- what a link will say, as what is left of a source
abbrev pub inlet_of : Wire → Inlet
inlet_of wire = record { left = wire.left; most = MAX_PIECE; faults = wire.read_faults }

-- a link gave the piece, which stands now behind all that was received, or nothing was received
abbrev pub FillsFrom : Heard → Wire → Wire → ℕ → List ℕ → Type 0
FillsFrom (Got count) old new room piece = IsPieceTaken count (inlet_of old) (inlet_of new) room piece × Appends old.received new.received piece
FillsFrom End old new room piece = IsAtEnd old.left × HearsNothing old new × (piece ≡ [])
FillsFrom _ old new room piece = HearsNothing old new × (piece ≡ [])

-- what came of a line of a link, as of an input: what has come of it is kept where no more has come yet
abbrev pub next_of : {E : Type 0} → Result Came E → Result NextLine E
next_of (Ok Line) = Ok next.Line
next_of (Ok Last) = Ok next.Last
next_of (Ok Ended) = Ok next.Ended
next_of (Ok Idle) = Ok next.ReadFault
next_of (Ok ReadFault) = Ok next.ReadFault
next_of (Ok Full) = Ok next.Full
next_of (Err e) = Err e

-- A line was read of what the link will say, and what was taken for it stands behind all that was received.
pub record HearsLine {E : Type 0} (answer : Result Came E) (old new : Reading) (before now : Wire) : Type 0 where
  pub reads : ReadsCounted (next_of answer) old new (inlet_of before) (inlet_of now)
  pub received : Appends before.received now.received reads.bytes

-- a fault is told where one was met, and only there
abbrev pub ReadFaultIsTold : {E : Type 0} → Result Came E → Wire → Wire → Type 0
ReadFaultIsTold (Ok ReadFault) before now = Rose before.read_faults now.read_faults
ReadFaultIsTold _ before now = now.read_faults ≡ before.read_faults
