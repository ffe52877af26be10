use Rattle.std.proofs.Common.{◌≡◌, ◌≤◌, ◌++◌, take, filter_map}
use Rattle.selection_set.specs.Listing.{AreInside, ranges_of}
use Rattle.list_keys.specs.Copies.{copy_of}
use Rattle.list_keys.proofs.copying.push_copies.Given as goal

abbrev pub invariant-loop-sel : goal.invariant-loop-sel
invariant-loop-sel l = record {
  ranges : ranges_of l.lines l.list.items ≡ ranges_of l.lines l.fn.list.items ++ filter_map (copy_of l.direction l.lines) (ranges_of l.lines (take l.sel-index l.sels));
  inside : AreInside l.lines l.list.items;
  capacity : l.fn.list.capacity ≤ l.list.capacity;
}
