use Rattle.std.proofs.Common.{◌≡◌, drop}
use Rattle.scope_options.specs.Settings.{value_at}
use Rattle.scope_options.proofs.changing.value_at.Given as goal

abbrev pub invariant-loop-row : goal.invariant-loop-row
invariant-loop-row l = value_at l.scope l.name (drop l.row-index l.rows) ≡ value_at l.scope l.name l.rows
