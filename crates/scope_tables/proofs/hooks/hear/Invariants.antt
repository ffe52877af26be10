use Rattle.std.proofs.Common.{◌≡◌, ◌++◌, drop}
use Rattle.scope_tables.specs.Hooks.{heard_at}
use Rattle.scope_tables.proofs.hooks.hear.Given as goal

-- what was found, with what is heard of the hooks that are left, is what is to be found
abbrev pub invariant-loop-held : goal.invariant-loop-held
invariant-loop-held g l =
    l.found.items ++ heard_at l.name l.parameter (drop l.held-index l.hooks) l.scope ≡ l.initial.found.items ++ heard_at l.name l.parameter l.hooks l.scope
