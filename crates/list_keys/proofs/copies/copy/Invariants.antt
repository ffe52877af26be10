-- From the number that is reached, the search finds the same.
use Rattle.std.proofs.Common.{◌≡◌}
use Rattle.selection_set.specs.Inside.{range_of}
use Rattle.list_keys.specs.Copies.{copy_of}
use Rattle.list_keys.proofs.CopyLemmas.{copy_from}
use Rattle.list_keys.proofs.copies.copy.Given as goal

abbrev pub invariant-loop-by : goal.invariant-loop-by
invariant-loop-by l = copy_of l.direction l.lines (range_of l.lines l.sel) ≡ copy_from l.direction l.lines l.sel.low l.sel.high l.sel.turned l.by
