use Rattle.std.proofs.Common.{◌≡◌, length}
use Rattle.std.specs.Prelude.{option_map}
use Rattle.selection_map.proofs.FrontLemmas.{mapped_front}
use Rattle.kak_world.specs.Seen.{begun_in}
use Rattle.kak_world.proofs.stepping.begin_all.Given as goal

abbrev pub invariant-loop-n : goal.invariant-loop-n
invariant-loop-n l = record {
  front : l.buffers.items ≡ mapped_front l.n (option_map begun_in) l.initial.buffers.items;
  count : length l.buffers.items ≡ length l.initial.buffers.items;
}
