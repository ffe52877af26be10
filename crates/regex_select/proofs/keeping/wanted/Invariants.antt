use Rattle.std.proofs.Common.{◌≡◌, take, map}
use Rattle.std.specs.Prelude.{not, if◌then◌else◌}
use Rattle.regex_select.proofs.keeping.wanted.Given as goal

abbrev pub invariant-loop-has : goal.invariant-loop-has
invariant-loop-has l = l.flags.items ≡ map (λ has. if l.matching then has else not has) (take l.has-index l.found)
