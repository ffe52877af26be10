use Rattle.std.proofs.Common.{◌≡◌, drop}
use Rattle.highlight_paint.specs.Painters.{painting_at}
use Rattle.highlight_paint.specs.Numbers.{has_signs}
use Rattle.highlight_paint.proofs.numbering.scope_has_signs.Given as goal

abbrev pub invariant-loop-row : goal.invariant-loop-row
invariant-loop-row g l = has_signs (painting_at l.scope (drop l.row-index l.rows)) ≡ has_signs (painting_at l.scope l.rows)
