use Rattle.scope_tables.proofs.RowLemmas.{map-same, map-other, alias-same, alias-other, definition-same, definition-other}
use Rattle.scope_tables.proofs.laws.rows_are_apart.Goals as goal

pub returns : goal.returns
returns c = record {
  mapped = map-same;
  other_maps = map-other;
  aliased = alias-same;
  other_aliases = alias-other;
  defined = definition-same;
  other_definitions = definition-other;
}
