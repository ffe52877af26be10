use Rattle.std.proofs.Common.{◌≡◌, ◌++◌, drop}
use Rattle.command_forms.specs.Results.{then_as}
use Rattle.command_set.specs.Painters.{groups_told}
use Rattle.command_set.proofs.painters.groups_told.Given as goal

abbrev pub invariant-loop-n : goal.invariant-loop-n
invariant-loop-n l = then_as (λ gs. l.groups.items ++ gs) (groups_told l.faces (drop l.n l.words)) ≡ groups_told l.faces l.words
