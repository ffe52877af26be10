use Rattle.std.proofs.Common.{◌≡◌, ◌≤◌, length, take, filter_map}
use Rattle.selection_set.specs.Listing.{ranges_of}
use Rattle.list_keys.specs.Copies.{copy_of}
use Rattle.list_keys.proofs.copying.copy_count.Given as goal

abbrev pub invariant-loop-sel : goal.invariant-loop-sel
invariant-loop-sel l = record {
  value : l.count ≡ length (filter_map (copy_of l.direction l.lines) (ranges_of l.lines (take l.sel-index l.sels)));
  few : l.count ≤ l.sel-index;
}
