use Rattle.std.proofs.Common.{◌≡◌, length}
use Rattle.std.specs.Prelude.{option_map}
use Rattle.selection_map.proofs.FrontLemmas.{mapped_front}
use Rattle.list_shelf.specs.declared.holder.Holder.TheVariants.{Of}
use Rattle.kak_world.specs.Flat.{left_behind}
use Rattle.kak_world.specs.Seen.{all_seen, AllLeave}
use Rattle.kak_world.proofs.coming.leave_buffers.Given as goal

abbrev pub invariant-loop-n : goal.invariant-loop-n
invariant-loop-n l = record {
  front : all_seen l.buffers.items ≡ mapped_front l.n (option_map (left_behind l.who)) (all_seen l.initial.buffers.items);
  count : length l.buffers.items ≡ length l.initial.buffers.items;
  leaves : AllLeave (Of l.who) l.initial.buffers.items l.buffers.items;
}
