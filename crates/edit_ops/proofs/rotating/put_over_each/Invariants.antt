use Rattle.std.proofs.Common.{◌≡◌, ◌≤◌, ◌++◌, length, take}
use Rattle.std.specs.Vec.{vec_capacity}
use Rattle.std.specs.Vec.Iter.{into_iter_items, into_iter_len}
use Rattle.std.specs.List.{AllByRecursion}
use Rattle.selection_set.specs.Listing.{ranges_of}
use Rattle.buffer_store.specs.Buffers.{flat_splices, IsSpliceOf}
use Rattle.edit_ops.specs.Rotating.{put_over_each}
use Rattle.edit_ops.proofs.rotating.put_over_each.Given as goal

abbrev pub invariant-loop-text : goal.invariant-loop-text
invariant-loop-text l = record {
  all : l.yielded ++ into_iter_items l.text-iterator ≡ l.fn.texts.items;
  left : into_iter_len l.text-iterator ≡ length (into_iter_items l.text-iterator);
  so_far : flat_splices l.lines l.splices.items ≡ put_over_each l.fn.texts.items (ranges_of l.lines (take (length l.yielded) l.sels.list));
  ends : AllByRecursion (IsSpliceOf l.lines) l.splices.items;
  count : length l.splices.items ≡ length l.yielded;
  reserved : length l.sels.list ≤ vec_capacity l.splices;
}
