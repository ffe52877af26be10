use Rattle.std.proofs.Common.{◌≡◌, drop}
use Rattle.scope_tables.specs.Hooks.{hook_at}
use Rattle.scope_tables.proofs.hooks.hook_at.Given as goal

abbrev pub invariant-loop-held : goal.invariant-loop-held
invariant-loop-held g l = hook_at l.at (drop l.held-index l.hooks) ≡ hook_at l.at l.hooks
