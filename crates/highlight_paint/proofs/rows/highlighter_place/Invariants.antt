use Rattle.std.proofs.Common.{◌≡◌, ◌+◌, drop}
use Rattle.tables.specs.Tables.{place_where}
use Rattle.highlight_paint.specs.Highlighters.{is_highlighter}
use Rattle.highlight_paint.proofs.rows.highlighter_place.Given as goal

abbrev pub invariant-loop-i : goal.invariant-loop-i
invariant-loop-i g l = l.i + place_where (is_highlighter l.scope l.path) (drop l.i l.rows) ≡ place_where (is_highlighter l.scope l.path) l.rows
