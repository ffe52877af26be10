use Rattle.std.proofs.Common.{◌≡◌, drop}
use Rattle.std.specs.List.{list_any}
use Rattle.highlight_paint.specs.Highlighters.{is_parent_of}
use Rattle.highlight_paint.proofs.rows.has_group.Given as goal

abbrev pub invariant-loop-row : goal.invariant-loop-row
invariant-loop-row g l = list_any (is_parent_of l.scope l.path) (drop l.row-index l.rows) ≡ list_any (is_parent_of l.scope l.path) l.rows
