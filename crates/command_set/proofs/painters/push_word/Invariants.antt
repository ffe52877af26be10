use Rattle.std.proofs.Common.{◌≡◌, ◌++◌, ◌∷◌, [], take}
use Rattle.std.specs.Prelude.{flat_map}
use Rattle.command_set.specs.Painters.{in_name}
use Rattle.command_set.proofs.painters.push_word.Given as goal

-- the word's characters so far stand behind the `_`
abbrev pub invariant-loop-c : goal.invariant-loop-c
invariant-loop-c l = l.name ≡ (l.fn.name ++ 95 ∷ []) ++ flat_map in_name (take l.c-index l.c-items)
