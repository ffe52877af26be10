use Rattle.std.proofs.Common.{◌≡◌, ◌-◌, false}
use Rattle.std.specs.Io.KnownBytes.{Appends}
use Rattle.line_reading.specs.declared.limits.TheConstants.{MAX_INPUT}
use Rattle.client_links.specs.Wires.{TellsNoMore}
use Rattle.line_reading.specs.Hearing.{inlet_of}
use Rattle.line_reading.proofs.TakenLemmas.{HasTaken}
use Rattle.line_reading.proofs.reader.LineReader.hear.Given as goal

-- what was received so far stands in the line and in the piece
abbrev pub invariant-pieces : goal.invariant-pieces
invariant-pieces g l = record {
  so_far : HasTaken l.fn.self (inlet_of (g.L.Link.wire l.fn.link)) (inlet_of (g.L.Link.wire l.link)) l.self-inside.line.items l.self-inside.piece l.self-inside.taken;
  received : Appends (g.L.Link.wire l.fn.link).received (g.L.Link.wire l.link).received so_far.bytes;
  not_given : l.self-inside.given ≡ false;
  sent : (g.L.Link.wire l.link).outlet ≡ (g.L.Link.wire l.fn.link).outlet;
  told : TellsNoMore (g.L.Link.wire l.fn.link) (g.L.Link.wire l.link);
}

abbrev pub decreases-pieces : goal.decreases-pieces
decreases-pieces g l = MAX_INPUT - l.self-inside.taken
