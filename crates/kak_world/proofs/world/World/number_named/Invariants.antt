use Rattle.std.proofs.Common.{◌≡◌, drop}
use Rattle.kak_world.specs.Seen.{all_seen}
use Rattle.kak_world.specs.Saving.{buffer_number_from}
use Rattle.kak_world.proofs.world.World.number_named.Given as goal

abbrev pub invariant-loop-n : goal.invariant-loop-n
invariant-loop-n g l = buffer_number_from l.n l.name (drop l.n (all_seen l.slot-items)) ≡ buffer_number_from 0 l.name (all_seen l.slot-items)
