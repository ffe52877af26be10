use Rattle.std.proofs.Common.{◌≡◌, ◌≤◌, length, take, map}
use Rattle.window_view.specs.Views.{window_seen}
use Rattle.selection_set.specs.Listing.{AreInside, ranges_of}
use Rattle.key_rows.specs.Each.{each_range}
use Rattle.key_rows.proofs.each.changed_list.Given as goal

abbrev pub invariant-loop-sel : goal.invariant-loop-sel
invariant-loop-sel l = record {
  changes : ranges_of l.lines l.list.items ≡ map (each_range l.change (window_seen l.window) l.tabstop.columns l.lines) (ranges_of l.lines (take l.sel-index l.sels));
  inside : AreInside l.lines l.list.items;
  count : length l.list.items ≡ l.sel-index;
  room : length l.sels ≤ l.list.capacity;
}
