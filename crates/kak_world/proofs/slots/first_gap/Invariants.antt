use Rattle.std.proofs.Common.{◌≡◌, ◌+◌, drop}
use Rattle.kak_world.specs.Showing.{first_gap}
use Rattle.kak_world.specs.Seen.{all_seen}
use Rattle.kak_world.proofs.slots.first_gap.Given as goal

abbrev pub invariant-loop-i : goal.invariant-loop-i
invariant-loop-i l = l.i + first_gap (drop l.i (all_seen l.buffers)) ≡ first_gap (all_seen l.buffers)
