use Rattle.std.proofs.Common.{◌≡◌, drop}
use Rattle.selection_set.specs.Listing.{ranges_of}
use Rattle.key_rows.specs.Entering.{reaches_end}
use Rattle.key_rows.proofs.entries.reaches_end.Given as goal

-- it is told by the selections that are left
abbrev pub invariant-loop-sel : goal.invariant-loop-sel
invariant-loop-sel l = reaches_end l.lines (ranges_of l.lines l.sels) ≡ reaches_end l.lines (ranges_of l.lines (drop l.sel-index l.sels))
