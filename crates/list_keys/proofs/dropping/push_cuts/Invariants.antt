use Rattle.std.proofs.Common.{◌≡◌, ◌≤◌, ◌+◌, ◌++◌, length, take, filter_map}
use Rattle.selection_set.specs.Listing.{AreInside, ranges_of}
use Rattle.list_keys.specs.Cuts.{cut_by}
use Rattle.list_keys.proofs.dropping.push_cuts.Given as goal

abbrev pub invariant-loop-sel : goal.invariant-loop-sel
invariant-loop-sel l = record {
  ranges : ranges_of l.lines l.list.items ≡ ranges_of l.lines l.fn.list.items ++ filter_map (cut_by l.how l.lines) (ranges_of l.lines (take l.sel-index l.sels));
  inside : AreInside l.lines l.list.items;
  count : length l.list.items ≤ length l.fn.list.items + l.sel-index;
  capacity : l.list.capacity ≡ l.fn.list.capacity;
}
