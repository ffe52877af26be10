-- What commands do to registers and selections, and what they say.
use Rattle.std.specs.Prelude.{ℕ, Bool, true, false, if◌then◌else◌, List, [], unwrap_or, None, Some}
use Rattle.std.specs.declared.option.Option.{Option}
use Rattle.kak_registers.specs.Names.{named}
use Rattle.kak_world.specs.declared.own.StatusText.{StatusText}
use Rattle.kak_world.specs.declared.own.StatusText.TheVariants.{Said, Refused}
use Rattle.kak_world.specs.declared.ask.EditError.{EditError}
use Rattle.kak_world.specs.declared.ask.EditError.TheVariants.{Command as OfCommand}
use Rattle.kak_world.specs.declared.command_error.CommandError.TheVariants.{NoSuchRegister, Failed}
use Rattle.kak_world.specs.Flat.{Flat, status_of, with_own}
use Rattle.kak_world.specs.Events.{register_modified}
use Rattle.kak_world.specs.Registers.{set_row}
use Rattle.kak_world.specs.Rows.{RowEnd, does}
use Rattle.key_rows.specs.Sequence.{then_row}
use Rattle.key_rows.specs.Reading.{joined_text}
use Rattle.command_set.specs.Buffers.{refuses}

-- the register of a name is set, if there is one, which hooks hear
abbrev pub register_set : Option ℕ → List ℕ → List (List ℕ) → ℕ → Flat → RowEnd
register_set None name values who flat = refuses (NoSuchRegister name) flat
register_set (Some c) name values who flat = then_row (set_row c values flat) (λ w. does (register_modified c who w))

-- a register is set to strings
abbrev pub register_row : List ℕ → List (List ℕ) → ℕ → Flat → RowEnd
register_row name values who flat = register_set (named name) name values who flat

-- whether a status tells why something was refused
abbrev pub is_refusal : StatusText → Bool
is_refusal (Refused text) = true
is_refusal _ = false

-- a client is told a text, unless an error of the step was told already
abbrev pub told_text : List ℕ → ℕ → Flat → Flat
told_text text who flat = if is_refusal (status_of who flat) then flat else with_own who (λ o. record o { status = Said text }) flat

-- words are said to a client, with a space between each two
abbrev pub echo_row : List (List ℕ) → ℕ → Flat → RowEnd
echo_row words who flat = does (told_text (joined_text words) who flat)

-- the refusal of a command that is to fail with a text, or with the empty one
abbrev pub failing : Option (List ℕ) → EditError
failing text = OfCommand (Failed (unwrap_or text []))
