use Rattle.std.proofs.Common.{◌≡◌, ◌+◌, drop}
use Rattle.kak_registers.specs.declared.row.TheConstants.{MAX_REGISTER_CHARS}
use Rattle.kak_registers.specs.Contents.{char_count}
use Rattle.kak_registers.proofs.registers.fits.Given as goal

abbrev pub invariant-loop-n : goal.invariant-loop-n
invariant-loop-n l = char_count l.values + l.room ≡ MAX_REGISTER_CHARS + char_count (drop l.n l.values)
