use Rattle.std.proofs.Common.{◌≡◌, ◌≤◌, ◌++◌, length, drop}
use Rattle.std.specs.List.{All}
use Rattle.selection_set.specs.Numbering.{numbered_from, HasSmallNumbers}
use Rattle.selection_set.proofs.order.with_numbers.Given as goal

abbrev pub invariant-loop-i : goal.invariant-loop-i
invariant-loop-i l = record {
  built : l.all.items ++ numbered_from l.i (drop l.i l.list) ≡ numbered_from 0 l.list;
  small : All HasSmallNumbers l.all.items;
  count : length l.all.items ≡ l.i;
  room : length l.list ≤ l.all.capacity;
}
