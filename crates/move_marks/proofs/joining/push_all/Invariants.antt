use Rattle.std.proofs.Common.{◌≡◌, ◌+◌, ◌++◌, length, drop}
use Rattle.move_marks.proofs.joining.push_all.Given as goal

abbrev pub invariant-loop-sel : goal.invariant-loop-sel
invariant-loop-sel l = record {
  built : l.list.items ++ drop l.sel-index l.more ≡ l.initial.list.items ++ l.more;
  count : length l.list.items ≡ length l.initial.list.items + l.sel-index;
  capacity : l.list.capacity ≡ l.initial.list.capacity;
}
