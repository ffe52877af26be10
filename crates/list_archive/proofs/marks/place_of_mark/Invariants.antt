use Rattle.std.proofs.Common.{◌≡◌, ◌+◌, drop}
use Rattle.tables.specs.Tables.{place_where}
use Rattle.list_archive.specs.Trails.{is_mark_of}
use Rattle.list_archive.proofs.marks.place_of_mark.Given as goal

abbrev pub invariant-loop-i : goal.invariant-loop-i
invariant-loop-i l = l.i + place_where (is_mark_of l.register) (drop l.i l.marks) ≡ place_where (is_mark_of l.register) l.marks
