use Rattle.std.proofs.Common.{◌≡◌, ◌++◌, map, drop}
use Rattle.highlight_paint.specs.Painters.{painting_at}
use Rattle.highlight_paint.specs.Numbers.{numbering, numbers_of}
use Rattle.highlight_paint.proofs.numbering.push_scope.Given as goal

abbrev pub invariant-loop-row : goal.invariant-loop-row
invariant-loop-row g l = map numbering l.numbers.items ++ numbers_of (painting_at l.scope (drop l.row-index l.rows)) ≡ map numbering l.fn.numbers.items ++ numbers_of (painting_at l.scope l.rows)
