use Rattle.std.proofs.Common.{◌≡◌, drop}
use Rattle.edit_ops.specs.Putting.{some_is_line}
use Rattle.edit_ops.proofs.putting.some_is_line.Given as goal

abbrev pub invariant-loop-string : goal.invariant-loop-string
invariant-loop-string l = some_is_line (drop l.string-index l.strings) ≡ some_is_line l.strings
