use Rattle.std.proofs.Common.{◌≡◌, ◌++◌, take}
use Rattle.list_keys.proofs.main_selection.others.Given as goal

abbrev pub invariant-loop-sel : goal.invariant-loop-sel
invariant-loop-sel l = record {
  items : l.list.items ≡ take l.sel-index l.sel-items;
  room : l.list.capacity ≡ l.initial.list.capacity;
}

abbrev pub invariant-loop-sel-2 : goal.invariant-loop-sel-2
invariant-loop-sel-2 l = record {
  items : l.list.items ≡ l.initial.list.items ++ take l.sel-index l.sel-items;
  room : l.list.capacity ≡ l.initial.list.capacity;
}
