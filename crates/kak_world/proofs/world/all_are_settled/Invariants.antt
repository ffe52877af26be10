use Rattle.std.proofs.Common.{take}
use Rattle.std.specs.List.{AllByRecursion}
use Rattle.kak_world.specs.Seen.{KeptIsSettled}
use Rattle.kak_world.proofs.world.all_are_settled.Given as goal

abbrev pub invariant-loop-slot : goal.invariant-loop-slot
invariant-loop-slot l = AllByRecursion KeptIsSettled (take l.slot-index l.buffers)
