use Rattle.std.proofs.Common.{◌≤◌, length, take}
use Rattle.regex_select.specs.Ways.{ArePassed}
use Rattle.regex_select.proofs.way.first_ahead.Given as goal

abbrev pub invariant-loop-n : goal.invariant-loop-n
invariant-loop-n l = record { few : l.n ≤ length l.matches; passed : ArePassed l.direction l.sel (take l.n l.matches) }
