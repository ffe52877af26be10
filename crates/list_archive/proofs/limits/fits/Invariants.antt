-- What is still to come makes the whole sum, and so far it isn't too much.
use Rattle.std.proofs.Common.{◌≡◌, ◌+◌, ◌≤◌, drop}
use Rattle.list_archive.specs.declared.limits.TheConstants.{MAX_PAST_SELECTIONS}
use Rattle.list_archive.specs.Limits.{total}
use Rattle.list_archive.specs.Archives.{stored_size}
use Rattle.list_archive.proofs.limits.fits.Given as goal

abbrev pub invariant-loop-lag : goal.invariant-loop-lag
invariant-loop-lag l = record {
  sum : l.sum + total stored_size (drop l.lag-index l.lags) ≡ total stored_size l.lags;
  few : l.sum ≤ MAX_PAST_SELECTIONS;
}
