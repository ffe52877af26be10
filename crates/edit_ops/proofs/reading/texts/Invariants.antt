use Rattle.std.proofs.Common.{◌≡◌, ◌≤◌, length, take}
use Rattle.std.specs.Vec.{vec_capacity}
use Rattle.selection_set.specs.Listing.{ranges_of}
use Rattle.edit_ops.specs.Reading.{texts_of}
use Rattle.edit_ops.proofs.reading.texts.Given as goal

abbrev pub invariant-loop-sel : goal.invariant-loop-sel
invariant-loop-sel l = record {
  so_far : l.texts.items ≡ texts_of l.lines (ranges_of l.lines (take l.sel-index l.sels.list));
  count : length l.texts.items ≡ l.sel-index;
  reserved : length l.sels.list ≤ vec_capacity l.texts;
}
