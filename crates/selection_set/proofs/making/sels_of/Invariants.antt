use Rattle.std.proofs.Common.{◌≡◌, ◌≤◌, ◌++◌, length, drop, map}
use Rattle.selection_set.specs.Listing.{sel_of_pair}
use Rattle.selection_set.proofs.making.sels_of.Given as goal

abbrev pub invariant-loop-pair : goal.invariant-loop-pair
invariant-loop-pair l = record {
  built : l.list.items ++ map sel_of_pair (drop l.pair-index l.pairs) ≡ map sel_of_pair l.pairs;
  count : length l.list.items ≡ l.pair-index;
  room : length l.pairs ≤ l.list.capacity;
}
