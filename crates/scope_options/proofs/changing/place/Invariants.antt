use Rattle.std.proofs.Common.{◌≡◌, ◌+◌, drop}
use Rattle.tables.specs.Tables.{place_where}
use Rattle.scope_options.specs.Settings.{is_at}
use Rattle.scope_options.proofs.changing.place.Given as goal

abbrev pub invariant-loop-i : goal.invariant-loop-i
invariant-loop-i l = l.i + place_where (is_at l.scope l.name) (drop l.i l.rows) ≡ place_where (is_at l.scope l.name) l.rows
