use Rattle.std.proofs.Common.{◌≡◌, length}
use Rattle.highlight_paint.proofs.PaintLemmas.{LeavesRest}
use Rattle.highlight_paint.proofs.painting.lay_scope.Given as goal

abbrev pub invariant-loop-row : goal.invariant-loop-row
invariant-loop-row g l = record {
  same : length l.grounds.items ≡ length l.fn.grounds.items;
  rest : LeavesRest l.faces l.scope l.rows l.row-index l.part.lines.now l.part.top l.fn.grounds.items l.grounds.items;
}
