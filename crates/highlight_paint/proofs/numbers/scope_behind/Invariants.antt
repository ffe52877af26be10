use Rattle.std.proofs.Common.{◌≡◌, ◌≤◌, ◌^◌, min, drop}
use Rattle.highlight_paint.specs.Painters.{painting_at}
use Rattle.highlight_paint.specs.Numbers.{numbers_behind}
use Rattle.highlight_paint.proofs.numbers.scope_behind.Given as goal

abbrev pub invariant-loop-row : goal.invariant-loop-row
invariant-loop-row g l = record {
  small : l.at ≤ 2 ^ 31;
  rest : min (numbers_behind l.tabstop.columns l.lines l.at (painting_at l.scope (drop l.row-index l.rows))) (2 ^ 31) ≡ min (numbers_behind l.tabstop.columns l.lines l.column (painting_at l.scope l.rows)) (2 ^ 31);
}
