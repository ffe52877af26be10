-- The newest of those that are left are the newest of all.
use Rattle.std.proofs.Common.{◌≡◌, ◌≤◌, ◌-◌, drop, length}
use Rattle.list_archive.specs.Limits.{newest}
use Rattle.list_archive.specs.Archives.{stored_size}
use Rattle.list_archive.proofs.limits.count_too_many.Given as goal

abbrev pub invariant-loop-oldest : goal.invariant-loop-oldest
invariant-loop-oldest l = record {
  within : l.oldest ≤ length l.lags;
  newest : newest stored_size (drop l.oldest l.lags) ≡ newest stored_size l.lags;
}

abbrev pub decreases-loop-oldest : goal.decreases-loop-oldest
decreases-loop-oldest l = length l.lags - l.oldest
