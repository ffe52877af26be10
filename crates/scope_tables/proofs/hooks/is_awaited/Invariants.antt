use Rattle.std.proofs.Common.{◌≡◌, drop}
use Rattle.scope_tables.specs.Hooks.{is_awaited}
use Rattle.scope_tables.proofs.hooks.is_awaited.Given as goal

abbrev pub invariant-loop-held : goal.invariant-loop-held
invariant-loop-held g l = is_awaited l.name (drop l.held-index l.hooks) ≡ is_awaited l.name l.hooks
