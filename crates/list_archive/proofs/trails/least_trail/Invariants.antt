-- What is still to come makes the whole.
use Rattle.std.proofs.Common.{◌≡◌, drop}
use Rattle.list_archive.specs.Archives.{least_trail}
use Rattle.list_archive.proofs.trails.least_trail.Given as goal

abbrev pub invariant-loop-trail : goal.invariant-loop-trail
invariant-loop-trail l = least_trail l.least (drop l.trail-index l.trails) ≡ least_trail l.stamp l.trails
