use Rattle.std.proofs.Common.{◌≡◌, max, map, drop}
use Rattle.selection_set.specs.Listing.{ranges_of}
use Rattle.edit_ops.specs.Aligning.{cursor_column, greatest}
use Rattle.edit_ops.proofs.aligning.greatest_column.Given as goal

abbrev pub invariant-loop-sel : goal.invariant-loop-sel
invariant-loop-sel l =
    max l.last (greatest (map (cursor_column l.lines l.tabstop.columns) (ranges_of l.lines (drop l.sel-index l.sels)))) ≡ greatest (map (cursor_column l.lines l.tabstop.columns) (ranges_of l.lines l.sels))
