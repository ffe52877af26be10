use Rattle.std.proofs.Common.{◌≡◌, ◌≤◌, length, take}
use Rattle.std.specs.Vec.{vec_capacity}
use Rattle.std.specs.List.{AllByRecursion}
use Rattle.selection_set.specs.Listing.{ranges_of}
use Rattle.buffer_store.specs.Buffers.{flat_splices, IsSpliceOf}
use Rattle.edit_ops.specs.Putting.{puts}
use Rattle.edit_ops.proofs.putting.put_chars.Given as goal

abbrev pub invariant-loop-n : goal.invariant-loop-n
invariant-loop-n l = record {
  so_far : flat_splices l.lines l.splices.items ≡ puts l.lines l.how l.strings (ranges_of l.lines (take l.n l.sels.list));
  ends : AllByRecursion (IsSpliceOf l.lines) l.splices.items;
  count : length l.splices.items ≡ l.n;
  reserved : length l.sels.list ≤ vec_capacity l.splices;
}
