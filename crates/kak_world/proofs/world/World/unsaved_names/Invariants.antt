use Rattle.std.proofs.Common.{◌≡◌, drop, None}
use Rattle.kak_world.specs.Seen.{all_seen}
use Rattle.kak_world.specs.Saving.{unsaved_behind}
use Rattle.kak_world.proofs.world.World.unsaved_names.Given as goal

abbrev pub invariant-loop-slot : goal.invariant-loop-slot
invariant-loop-slot g l = unsaved_behind l.names (drop l.slot-index (all_seen l.slot-items)) ≡ unsaved_behind None (all_seen l.slot-items)
