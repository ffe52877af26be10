use Rattle.std.proofs.Common.{◌≡◌, ◌+◌, drop}
use Rattle.tables.specs.Tables.{place_where}
use Rattle.face_texts.specs.Tables.{is_named}
use Rattle.face_texts.proofs.rows.place.Given as goal

abbrev pub invariant-loop-i : goal.invariant-loop-i
invariant-loop-i l = l.i + place_where (is_named l.name) (drop l.i l.rows) ≡ place_where (is_named l.name) l.rows
