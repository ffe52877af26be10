use Rattle.std.proofs.Common.{◌≡◌, ◌≤◌, length, map, take}
use Rattle.std.specs.Vec.{vec_capacity}
use Rattle.selection_set.specs.Listing.{ranges_of}
use Rattle.edit_ops.specs.Aligning.{cursor_column}
use Rattle.edit_ops.proofs.aligning.columns_of.Given as goal

abbrev pub invariant-loop-sel : goal.invariant-loop-sel
invariant-loop-sel l = record {
  so_far : l.columns.items ≡ map (cursor_column l.lines l.tabstop.columns) (ranges_of l.lines (take l.sel-index l.sels));
  count : length l.columns.items ≡ l.sel-index;
  reserved : length l.sels ≤ vec_capacity l.columns;
}
