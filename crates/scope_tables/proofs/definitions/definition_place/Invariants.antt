use Rattle.std.proofs.Common.{◌≡◌, ◌+◌, drop}
use Rattle.tables.specs.Tables.{place_where}
use Rattle.scope_tables.specs.Definitions.{is_definition_of}
use Rattle.scope_tables.proofs.definitions.definition_place.Given as goal

abbrev pub invariant-loop-i : goal.invariant-loop-i
invariant-loop-i l = l.i + place_where (is_definition_of l.name) (drop l.i l.definitions) ≡ place_where (is_definition_of l.name) l.definitions
