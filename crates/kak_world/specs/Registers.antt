-- Setting a register as a row: what it does, and why it is refused.
use Rattle.std.specs.Prelude.{ℕ, List}
use Rattle.std.specs.declared.option.Option.{Option}
use Rattle.std.specs.Prelude.{Some, None}
use Rattle.kak_registers.specs.declared.names.RegisterError.{RegisterError}
use Rattle.kak_registers.specs.Contents.{set_in}
use Rattle.kak_registers.specs.Refusals.{register_refusal}
use Rattle.kak_world.specs.Flat.{Flat, registers_of, with_registers}
use Rattle.kak_world.specs.Refusals.{of_register}
use Rattle.kak_world.specs.Rows.{RowEnd, does, fails}

-- the world in which a register holds these strings
abbrev pub with_register : ℕ → List (List ℕ) → Flat → Flat
with_register name strings flat = with_registers (set_in name strings (registers_of flat)) flat

-- a register is set, unless there is a reason against it
abbrev pub set_unless : Option RegisterError → ℕ → List (List ℕ) → Flat → RowEnd
set_unless None name strings flat = does (with_register name strings flat)
set_unless (Some refusal) name strings flat = fails (of_register refusal) flat

-- a register is set to some strings
unfoldable pub set_row : ℕ → List (List ℕ) → Flat → RowEnd
set_row name strings flat = set_unless (register_refusal name strings) name strings flat
