use Rattle.std.proofs.Common.{◌≡◌, length}
use Rattle.selection_map.proofs.FrontLemmas.{mapped_front}
use Rattle.kak_world.specs.Dropping.{moved_on}
use Rattle.kak_world.proofs.clients.move_each_on.Given as goal

abbrev pub invariant-loop-i : goal.invariant-loop-i
invariant-loop-i l = record {
  front : l.rows.items ≡ mapped_front l.i (moved_on l.n l.to) l.initial.rows.items;
  count : length l.rows.items ≡ length l.initial.rows.items;
}
