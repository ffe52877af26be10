use Rattle.std.proofs.Common.{◌≡◌, take}
use Rattle.std.specs.Prelude.{flat_map}
use Rattle.command_set.specs.Painters.{behind_bar}
use Rattle.command_set.proofs.painters.made_name.Given as goal

-- the words so far are joined
abbrev pub invariant-loop-n : goal.invariant-loop-n
invariant-loop-n l = l.name ≡ flat_map behind_bar (take l.n l.words)
