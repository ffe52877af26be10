use Rattle.std.proofs.Common.{◌≡◌, take}
use Rattle.regex_select.specs.Flags.{flagged}
use Rattle.regex_select.proofs.keeping.kept.Given as goal

abbrev pub invariant-loop-n : goal.invariant-loop-n
invariant-loop-n l = l.list.items ≡ flagged (take l.n l.flags) (take l.n l.sels.list)
