use Rattle.std.proofs.Common.{◌≡◌, ◌+◌, drop}
use Rattle.kak_world.specs.Flat.{lowest}
use Rattle.kak_world.specs.Seen.{all_seen}
use Rattle.kak_world.proofs.coming.lowest.Given as goal

abbrev pub invariant-loop-i : goal.invariant-loop-i
invariant-loop-i l = l.i + lowest (drop l.i (all_seen l.buffers)) ≡ lowest (all_seen l.buffers)
