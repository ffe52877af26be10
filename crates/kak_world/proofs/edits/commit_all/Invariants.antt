use Rattle.std.proofs.Common.{◌≡◌, length}
use Rattle.std.specs.Prelude.{option_map}
use Rattle.selection_map.proofs.FrontLemmas.{mapped_front}
use Rattle.kak_world.specs.Flat.{committed_for}
use Rattle.kak_world.specs.Seen.{with_seen}
use Rattle.kak_world.proofs.edits.commit_all.Given as goal

abbrev pub invariant-loop-n : goal.invariant-loop-n
invariant-loop-n l = record {
  front : l.buffers.items ≡ mapped_front l.n (option_map (with_seen (committed_for l.who))) l.initial.buffers.items;
  count : length l.buffers.items ≡ length l.initial.buffers.items;
}
