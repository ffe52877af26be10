use Rattle.std.proofs.Common.{◌≡◌, ◌≤◌, length, take}
use Rattle.std.specs.Vec.{vec_capacity}
use Rattle.std.specs.List.{AllByRecursion}
use Rattle.selection_set.specs.Listing.{ranges_of}
use Rattle.buffer_store.specs.Buffers.{flat_splices, IsSpliceOf}
use Rattle.edit_ops.specs.Opening.{opens}
use Rattle.edit_ops.proofs.opening.open.Given as goal

abbrev pub invariant-loop-sel : goal.invariant-loop-sel
invariant-loop-sel l = record {
  so_far : flat_splices l.lines l.splices.items ≡ opens l.lines l.direction (ranges_of l.lines (take l.sel-index l.sels.list));
  ends : AllByRecursion (IsSpliceOf l.lines) l.splices.items;
  count : length l.splices.items ≡ l.sel-index;
  reserved : length l.sels.list ≤ vec_capacity l.splices;
}
