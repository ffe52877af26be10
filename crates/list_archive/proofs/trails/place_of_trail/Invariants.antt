use Rattle.std.proofs.Common.{◌≡◌, ◌+◌, drop}
use Rattle.tables.specs.Tables.{place_where}
use Rattle.list_archive.specs.Trails.{is_trail_of}
use Rattle.list_archive.proofs.trails.place_of_trail.Given as goal

abbrev pub invariant-loop-i : goal.invariant-loop-i
invariant-loop-i l = l.i + place_where (is_trail_of l.who) (drop l.i l.trails) ≡ place_where (is_trail_of l.who) l.trails
