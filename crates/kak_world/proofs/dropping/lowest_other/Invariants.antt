use Rattle.std.proofs.Common.{◌≡◌, ◌+◌, drop}
use Rattle.kak_world.specs.Flat.{lowest}
use Rattle.kak_world.specs.Seen.{all_seen}
use Rattle.kak_world.specs.Dropping.{emptied}
use Rattle.kak_world.proofs.dropping.lowest_other.Given as goal

abbrev pub invariant-loop-i : goal.invariant-loop-i
invariant-loop-i l = l.i + lowest (drop l.i (emptied l.n (all_seen l.buffers))) ≡ lowest (emptied l.n (all_seen l.buffers))
