use Rattle.std.proofs.Common.{◌≡◌, length}
use Rattle.selection_map.specs.Rebasing.{mapped_sel}
use Rattle.selection_map.proofs.FrontLemmas.{mapped_front}
use Rattle.selection_map.proofs.lists.map_sels.Given as goal

abbrev pub invariant-loop-n : goal.invariant-loop-n
invariant-loop-n l = record {
  front : l.sels.list ≡ mapped_front l.n (mapped_sel l.shift) l.initial.sels.list;
  count : length l.sels.list ≡ length l.initial.sels.list;
  main : l.sels.main ≡ l.initial.sels.main;
}
