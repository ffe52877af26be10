use Rattle.std.proofs.Common.{◌≡◌, ◌≤◌, take, flat_map}
use Rattle.selection_set.specs.Listing.{AreInside, ranges_of}
use Rattle.list_keys.specs.Cuts.{split_by}
use Rattle.list_keys.proofs.splitting.part_list.Given as goal

abbrev pub invariant-loop-sel : goal.invariant-loop-sel
invariant-loop-sel l = record {
  ranges : ranges_of l.lines l.list.items ≡ flat_map (split_by l.how l.lines) (ranges_of l.lines (take l.sel-index l.sels));
  inside : AreInside l.lines l.list.items;
  room : l.count ≤ l.list.capacity;
}
