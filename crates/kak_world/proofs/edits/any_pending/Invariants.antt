use Rattle.std.proofs.Common.{take}
use Rattle.std.specs.List.{AllByRecursion}
use Rattle.kak_world.specs.Seen.{KeptIsQuiet}
use Rattle.kak_world.proofs.edits.any_pending.Given as goal

-- nothing is pending in the buffers so far
abbrev pub invariant-loop-slot : goal.invariant-loop-slot
invariant-loop-slot l = AllByRecursion KeptIsQuiet (take l.slot-index l.buffers)
