use Rattle.std.proofs.Common.{◌≡◌, ◌≤◌, ◌-◌, drop}
use Rattle.selection_set.specs.Numbering.{in_order}
use Rattle.selection_set.proofs.order.is_in_order.Given as goal

abbrev pub invariant-loop-i : goal.invariant-loop-i
invariant-loop-i l = record {
  some : 1 ≤ l.i;
  front : in_order (drop (l.i - 1) l.list) ≡ in_order l.list;
}
