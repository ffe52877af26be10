use Rattle.std.proofs.Common.{◌≡◌, ◌≤◌, take}
use Rattle.regex_select.specs.Flags.{count_set}
use Rattle.regex_select.proofs.keeping.count.Given as goal

abbrev pub invariant-loop-i : goal.invariant-loop-i
invariant-loop-i l = record { value : l.count ≡ count_set (take l.i l.flags); few : l.count ≤ l.i }
