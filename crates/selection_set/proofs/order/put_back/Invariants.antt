use Rattle.std.proofs.Common.{◌≡◌, ◌++◌, take, drop, map, length}
use Rattle.selection_set.proofs.OrderLemmas.{sel_alone}
use Rattle.selection_set.proofs.order.put_back.Given as goal

abbrev pub invariant-loop-i : goal.invariant-loop-i
invariant-loop-i l = record {
  front : l.list ≡ map sel_alone (take l.i l.all) ++ drop l.i l.initial.list;
  count : length l.list ≡ length l.initial.list;
}
