use Rattle.std.proofs.Common.{◌≡◌, drop}
use Rattle.scope_tables.specs.Definitions.{definition_of}
use Rattle.scope_tables.proofs.definitions.definition_of.Given as goal

abbrev pub invariant-loop-definition : goal.invariant-loop-definition
invariant-loop-definition l = definition_of l.name (drop l.definition-index l.definitions) ≡ definition_of l.name l.definitions
