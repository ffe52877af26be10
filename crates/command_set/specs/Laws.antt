-- Laws of the commands, each proved as the contract of a function of `laws`.
use Rattle.std.specs.Prelude.{◌≡◌, ◌<◌, ◌+◌, ◌*◌, ℕ, List}
use Rattle.std.specs.declared.option.Option.{Option}
use Rattle.kak_ports.specs.declared.sink.Put.{Put}
use Rattle.kak_files.specs.declared.files.FileRead.{FileRead}
use Rattle.kak_words.specs.declared.parts.Command.{Command}
use Rattle.kak_world.specs.declared.ask.Saving.{Saving}
use Rattle.kak_world.specs.declared.purpose.Wanted.{Wanted}
use Rattle.kak_world.specs.Flat.{Flat, units_of}
use Rattle.kak_world.specs.Keeping.{KeepsClients}
use Rattle.kak_world.specs.Dropping.{KeepsJoined}
use Rattle.kak_world.specs.declared.ask.Ask.TheVariants.{Write, Then}
use Rattle.kak_world.specs.declared.ask.Later.{Later}
use Rattle.kak_world.specs.Rows.{RowEnd, Asks, stages_of}
use Rattle.command_set.specs.Buffers.{row_later}
use Rattle.command_set.specs.Rows.{row_command}
use Rattle.command_set.specs.Files.{row_read, row_saved}
use Rattle.command_set.specs.Finishing.{row_finish}

-- A row takes and gives no units; the same clients are there behind it, and each that had joined has joined still.
pub record IsTame (flat : Flat) (end : RowEnd) : Type 0 where
  pub units : units_of end.world ≡ units_of flat
  pub keeps : KeepsJoined flat end.world

-- no command takes units, or lets a client come or go
abbrev pub CommandsAreTame : Type 0
CommandsAreTame = (command : Command) (who : ℕ) (flat : Flat) → IsTame flat (row_command command who flat)

-- nor does what is made of a file: behind one that was read no row comes without a unit, and behind one that was written fewer than
-- behind what asked for that
pub record FilesAreTame : Type 0 where
  pub read : (name : List ℕ) (answer : FileRead) (who : ℕ) (flat : Flat) → IsTame flat (row_read name answer who flat)
  pub saved : (saving : Saving) (put : Put) (who : ℕ) (flat : Flat) → IsTame flat (row_saved saving put who flat)
  pub read_ends : (name : List ℕ) (answer : FileRead) (who : ℕ) (flat : Flat) → stages_of (row_read name answer who flat).row ≡ 0
  pub saved_falls : (saving : Saving) (put : Put) (who : ℕ) (flat : Flat) → stages_of (row_saved saving put who flat).row < stages_of (Asks (Write saving))

-- nor does what a row goes on with behind hooks, behind which fewer rows come than behind what asked for it
pub record LaterRowsAreTame : Type 0 where
  pub later : (later : Later) (who : ℕ) (flat : Flat) → IsTame flat (row_later later who flat)
  pub falls : (later : Later) (who : ℕ) (flat : Flat) → stages_of (row_later later who flat).row < stages_of (Asks (Then later))

-- what is made of a pattern takes a unit where it asks for more: what may come behind it is less than what might have come before
abbrev pub FinishFalls : Type 0
FinishFalls = (wanted : Wanted) (made : Option (List ℕ)) (who : ℕ) (flat : Flat)
    → 4 * units_of (row_finish wanted made who flat).world + stages_of (row_finish wanted made who flat).row < 4 * units_of flat + 1

-- nothing that is made of a pattern makes a client come or go
abbrev pub FinishKeepsClients : Type 0
FinishKeepsClients = (wanted : Wanted) (made : Option (List ℕ)) (who : ℕ) (flat : Flat) → KeepsClients flat (row_finish wanted made who flat).world
