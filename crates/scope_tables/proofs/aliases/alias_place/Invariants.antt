use Rattle.std.proofs.Common.{◌≡◌, ◌+◌, drop}
use Rattle.tables.specs.Tables.{place_where}
use Rattle.scope_tables.specs.Aliases.{is_alias}
use Rattle.scope_tables.proofs.aliases.alias_place.Given as goal

abbrev pub invariant-loop-i : goal.invariant-loop-i
invariant-loop-i l = l.i + place_where (is_alias l.scope l.word) (drop l.i l.aliases) ≡ place_where (is_alias l.scope l.word) l.aliases
