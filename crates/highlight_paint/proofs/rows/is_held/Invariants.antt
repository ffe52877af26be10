use Rattle.std.proofs.Common.{◌≡◌, drop}
use Rattle.highlight_paint.specs.Highlighters.{is_held}
use Rattle.highlight_paint.proofs.rows.is_held.Given as goal

abbrev pub invariant-loop-row : goal.invariant-loop-row
invariant-loop-row g l = is_held l.scope l.path (drop l.row-index l.rows) ≡ is_held l.scope l.path l.rows
