-- What happens in a step, in order: what the outside is asked for, and which tasks begin.
use Rattle.std.specs.Prelude.{ℕ, List, [], ◌∷◌}
use Rattle.std.specs.declared.option.Option.{Option}
use Rattle.key_names.specs.declared.key.Key.{Key}
use Rattle.kak_words.specs.declared.parts.Command.{Command}
use Rattle.kak_files.specs.declared.files.FileRead.{FileRead}
use Rattle.kak_ports.specs.declared.sink.Put.{Put}
use Rattle.scope_tables.specs.declared.hooks.HookRef.{HookRef}
use Rattle.kak_world.specs.declared.ask.Later.{Later}
use Rattle.kak_world.specs.declared.ask.Saving.{Saving}
use Rattle.kak_world.specs.declared.events.Fault.{Fault}
use Rattle.kak_world.specs.declared.playing.Macro.{Macro}
use Rattle.kak_world.specs.declared.purpose.Wanted.{Wanted}
use Rattle.kak_world.specs.Flat.{Flat}
use Rattle.kak_engine.specs.Asking.{Asked}

-- a task, which has a row
pub data Task : Type 0 where
  -- a key is run
  RunsKey : Key → Task
  -- a command is run
  RunsCommand : Command → Task
  -- a macro is run once more
  RunsMacro : Macro → Task
  -- a use is made of the pattern of a text, or it is told that the pattern was refused
  UsesPattern : Wanted → Option (List ℕ) → Task
  -- it is gone on with a row, once the hooks of what it did were run
  GoesOn : Later → Task
  -- it is gone on with a file that was to be read, and with one that was to be written
  ShowsFile : List ℕ → FileRead → Task
  NotesFile : Saving → Put → Task
  -- a client is granted to leave
  GrantsLeave : Task
  -- a client comes to normal mode with nothing begun, as it does before and behind keys that are played
  GoesNormal : Task
  -- words become the arguments of the defined command that runs, or no such one runs
  TakesArguments : Option (List (List ℕ)) → Task
  -- hooks are to hear that a client came, and that it is about to go
  NotesComing : Task
  NotesGoing : Task
  -- the events that are due are taken, so that what is due from then on stands behind none of them
  TakesDue : Task
  -- a hook begins, on an event of a parameter
  BeginsHook : HookRef → List ℕ → Task
  -- a parameter counts, or none
  TakesParameter : Option (List ℕ) → Task
  -- a client is told of an error of a hook
  KeepsFault : Fault → Task

-- one thing that happens in a step: the outside is asked for something, or a task of a client begins in a world
pub data Happened : Type 0 where
  WasAsked : Asked → Happened
  Began : ℕ → Task → Flat → Happened

-- what the outside was asked for in it, in order
abbrev pub asks_in : List Happened → List Asked
asks_in [] = []
asks_in (WasAsked what ∷ later) = what ∷ asks_in later
asks_in (Began who task flat ∷ later) = asks_in later
