-- The lists before the next one went through the shifts.
use Rattle.std.proofs.Common.{◌≡◌}
use Rattle.selection_map.proofs.FrontLemmas.{mapped_front}
use Rattle.list_shelf.specs.Lagging.{gone_through}
use Rattle.list_shelf.specs.Shelves.{with_lag}
use Rattle.list_shelf.proofs.rows.move_all.Given as goal

abbrev pub invariant-loop-n : goal.invariant-loop-n
invariant-loop-n l = l.rows.items ≡ mapped_front l.n (with_lag (gone_through l.shifts)) l.initial.rows.items
