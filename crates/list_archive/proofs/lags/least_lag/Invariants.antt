-- What is still to come makes the whole.
use Rattle.std.proofs.Common.{◌≡◌, drop}
use Rattle.list_archive.specs.Archives.{least_lag}
use Rattle.list_archive.proofs.lags.least_lag.Given as goal

abbrev pub invariant-loop-lag : goal.invariant-loop-lag
invariant-loop-lag l = least_lag l.least (drop l.lag-index l.lags) ≡ least_lag l.stamp l.lags
