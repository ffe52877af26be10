use Rattle.std.proofs.Common.{◌≡◌, ◌-◌, false}
use Rattle.line_reading.specs.declared.limits.TheConstants.{MAX_INPUT}
use Rattle.line_reading.proofs.TakenLemmas.{HasTaken}
use Rattle.line_reading.proofs.reader.LineReader.next.Given as goal

-- what was taken so far stands in the line and in the piece
abbrev pub invariant-pieces : goal.invariant-pieces
invariant-pieces g l = record {
  so_far : HasTaken l.fn.self (g.I.Source.inlet l.fn.source) (g.I.Source.inlet l.source) l.self-inside.line.items l.self-inside.piece l.self-inside.taken;
  not_given : l.self-inside.given ≡ false;
}

abbrev pub decreases-pieces : goal.decreases-pieces
decreases-pieces g l = MAX_INPUT - l.self-inside.taken
