-- Those before the next one are done.
use Rattle.std.proofs.Common.{◌≡◌}
use Rattle.selection_map.proofs.FrontLemmas.{mapped_front}
use Rattle.list_archive.specs.Archives.{carried}
use Rattle.list_archive.proofs.lags.carry_all.Given as goal

abbrev pub invariant-loop-n : goal.invariant-loop-n
invariant-loop-n l = l.lags.items ≡ mapped_front l.n (carried l.log l.shifts) l.initial.lags.items
