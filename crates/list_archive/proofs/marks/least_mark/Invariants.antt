-- What is still to come makes the whole.
use Rattle.std.proofs.Common.{◌≡◌, drop}
use Rattle.list_archive.specs.Archives.{least_mark}
use Rattle.list_archive.proofs.marks.least_mark.Given as goal

abbrev pub invariant-loop-mark : goal.invariant-loop-mark
invariant-loop-mark l = least_mark l.least (drop l.mark-index l.marks) ≡ least_mark l.stamp l.marks
