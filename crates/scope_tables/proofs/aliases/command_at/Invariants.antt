use Rattle.std.proofs.Common.{◌≡◌, drop}
use Rattle.scope_tables.specs.Aliases.{command_at}
use Rattle.scope_tables.proofs.aliases.command_at.Given as goal

abbrev pub invariant-loop-alias : goal.invariant-loop-alias
invariant-loop-alias l = command_at l.word (drop l.alias-index l.aliases) l.scope ≡ command_at l.word l.aliases l.scope
