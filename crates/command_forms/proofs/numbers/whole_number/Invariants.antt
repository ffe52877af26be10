use Rattle.std.proofs.Common.{◌≡◌, ◌≤◌, drop}
use Rattle.command_forms.specs.Numbers.{greatest_number, whole_on}
use Rattle.command_forms.proofs.numbers.whole_number.Given as goal

abbrev pub invariant-loop-d : goal.invariant-loop-d
invariant-loop-d l = record { small : l.n ≤ greatest_number; still : whole_on l.n (drop l.d-index l.digits) ≡ whole_on 0 l.digits }
