use Rattle.std.proofs.Common.{◌≡◌, drop}
use Rattle.scope_tables.specs.Maps.{keys_at}
use Rattle.scope_tables.proofs.maps.keys_at.Given as goal

abbrev pub invariant-loop-map : goal.invariant-loop-map
invariant-loop-map l = keys_at l.mode l.key (drop l.map-index l.maps) l.scope ≡ keys_at l.mode l.key l.maps l.scope
