use Rattle.std.proofs.Common.{◌≡◌, ◌+◌, drop}
use Rattle.tables.specs.Tables.{place_where}
use Rattle.kak_registers.specs.Contents.{is_register_row}
use Rattle.kak_registers.proofs.registers.place.Given as goal

abbrev pub invariant-loop-i : goal.invariant-loop-i
invariant-loop-i l = l.i + place_where (is_register_row l.name) (drop l.i l.rows) ≡ place_where (is_register_row l.name) l.rows
