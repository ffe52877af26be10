use Rattle.std.proofs.Common.{◌≡◌, ◌+◌, drop}
use Rattle.tables.specs.Tables.{place_where}
use Rattle.scope_tables.specs.Maps.{is_map}
use Rattle.scope_tables.proofs.maps.map_place.Given as goal

abbrev pub invariant-loop-i : goal.invariant-loop-i
invariant-loop-i l = l.i + place_where (is_map l.scope l.mode l.key) (drop l.i l.maps) ≡ place_where (is_map l.scope l.mode l.key) l.maps
