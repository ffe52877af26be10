use Rattle.std.proofs.Common.{◌≡◌, ◌-◌, length}
use Rattle.kak_world.specs.Flat.{least_free, first_free, numbers_of}
use Rattle.kak_world.proofs.clients.free_number.Given as goal

abbrev pub invariant-loop-number : goal.invariant-loop-number
invariant-loop-number l = first_free (length l.rows - l.number) l.number (numbers_of l.rows) ≡ least_free (numbers_of l.rows)
