-- Why a register isn't set.
use Rattle.std.specs.Prelude.{◌≡◌, ℕ, List, not, nat_le, if◌then◌else◌, Option, Some, None}
use Rattle.kak_registers.specs.declared.row.TheConstants.{MAX_REGISTER_CHARS}
use Rattle.kak_registers.specs.declared.names.RegisterError.{RegisterError}
use Rattle.kak_registers.specs.declared.names.RegisterError.TheVariants.{NoRegister, ReadOnly, RegisterFull, NoMemory}
use Rattle.kak_registers.specs.Names.{is_register, is_read_only}
use Rattle.kak_registers.specs.Contents.{char_count}

-- the first reason that holds: no such register, one that is only read, too many characters
abbrev pub register_refusal : ℕ → List (List ℕ) → Option RegisterError
register_refusal name strings =
    if not (is_register name) then Some (NoRegister name) else (if is_read_only name then Some (ReadOnly name) else
    (if nat_le (char_count strings) MAX_REGISTER_CHARS then None else Some RegisterFull))

-- an error is the refusal that is due; memory may run out only where none is
abbrev pub IsRegisterErrorDue : RegisterError → Option RegisterError → Type 0
IsRegisterErrorDue NoMemory due = due ≡ None
IsRegisterErrorDue (NoRegister name) due = due ≡ Some (NoRegister name)
IsRegisterErrorDue (ReadOnly name) due = due ≡ Some (ReadOnly name)
IsRegisterErrorDue RegisterFull due = due ≡ Some RegisterFull
