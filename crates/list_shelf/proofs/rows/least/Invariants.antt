-- What is still to come makes the whole.
use Rattle.std.proofs.Common.{◌≡◌, drop}
use Rattle.list_shelf.specs.Shelves.{least}
use Rattle.list_shelf.proofs.rows.least.Given as goal

abbrev pub invariant-loop-row : goal.invariant-loop-row
invariant-loop-row l = least l.least (drop l.row-index l.rows) ≡ least l.stamp l.rows
