-- The lists before the next one were brought up to date.
use Rattle.std.proofs.Common.{◌≡◌}
use Rattle.selection_map.proofs.FrontLemmas.{mapped_front}
use Rattle.list_shelf.specs.Lagging.{renewed}
use Rattle.list_shelf.specs.Shelves.{with_lag}
use Rattle.list_shelf.proofs.rows.renew_all.Given as goal

abbrev pub invariant-loop-n : goal.invariant-loop-n
invariant-loop-n l = l.rows.items ≡ mapped_front l.n (with_lag (renewed l.log)) l.initial.rows.items
