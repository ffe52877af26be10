-- Those before the next one are up to date.
use Rattle.std.proofs.Common.{◌≡◌}
use Rattle.selection_map.proofs.FrontLemmas.{mapped_front}
use Rattle.list_shelf.specs.Lagging.{up_to_date}
use Rattle.list_archive.proofs.lags.bring_first.Given as goal

abbrev pub invariant-loop-n : goal.invariant-loop-n
invariant-loop-n l = l.lags.items ≡ mapped_front l.n (up_to_date l.log) l.initial.lags.items
