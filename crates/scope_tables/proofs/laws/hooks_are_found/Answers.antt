use Rattle.scope_tables.proofs.HookLemmas.{hook-removed, hook-others, unawaited}
use Rattle.scope_tables.proofs.laws.hooks_are_found.Goals as goal

pub returns : goal.returns
returns c = record { removed = hook-removed; unheard = unawaited; others = hook-others }
