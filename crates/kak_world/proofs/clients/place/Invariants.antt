use Rattle.std.proofs.Common.{◌≡◌, ◌+◌, drop}
use Rattle.tables.specs.Tables.{place_where}
use Rattle.kak_world.specs.Flat.{is_of}
use Rattle.kak_world.proofs.clients.place.Given as goal

abbrev pub invariant-loop-i : goal.invariant-loop-i
invariant-loop-i l = l.i + place_where (is_of l.who) (drop l.i l.rows) ≡ place_where (is_of l.who) l.rows
