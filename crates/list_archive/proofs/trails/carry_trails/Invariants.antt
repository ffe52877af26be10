-- Those before the next one are done.
use Rattle.std.proofs.Common.{◌≡◌}
use Rattle.selection_map.proofs.FrontLemmas.{mapped_front}
use Rattle.list_archive.specs.Trails.{trail_with}
use Rattle.list_archive.specs.Archives.{carried}
use Rattle.list_archive.proofs.trails.carry_trails.Given as goal

abbrev pub invariant-loop-n : goal.invariant-loop-n
invariant-loop-n l = l.trails.items ≡ mapped_front l.n (trail_with (carried l.log l.shifts)) l.initial.trails.items
