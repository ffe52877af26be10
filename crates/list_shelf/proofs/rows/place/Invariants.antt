use Rattle.std.proofs.Common.{◌≡◌, ◌+◌, drop}
use Rattle.tables.specs.Tables.{place_where}
use Rattle.list_shelf.specs.Shelves.{is_of}
use Rattle.list_shelf.proofs.rows.place.Given as goal

abbrev pub invariant-loop-i : goal.invariant-loop-i
invariant-loop-i l = l.i + place_where (is_of l.holder) (drop l.i l.rows) ≡ place_where (is_of l.holder) l.rows
