-- How far a step came for which memory was wanting.
use Rattle.std.specs.Prelude.{◌≡◌, ◌⊎◌, ℕ, List, [], ◌∷◌}
use Rattle.key_names.specs.declared.key.Key.{Key}
use Rattle.kak_world.specs.declared.own.Mode.{Mode}
use Rattle.kak_world.specs.declared.own.Mode.TheVariants.{Normal, Insert, Prompt}
use Rattle.kak_world.specs.Flat.{Flat, mode_of, pending_of}
use Rattle.normal_keys.specs.Wanting.{IsPartOfNormal}
use Rattle.kak_world.specs.Rows.{does}
use Rattle.kak_world.specs.Events.{coming_noted, IsUnheard}
use Rattle.insert_prompt.specs.Wanting.{IsPartOfInsert, IsPartOfPrompt}
use Rattle.command_set.specs.Rows.{row_command}
use Rattle.command_set.specs.Buffers.{row_later}
use Rattle.command_set.specs.Wanting.{IsPartOfRead, IsPartOfSaved}
use Rattle.kak_engine.specs.Course.{Task, RunsKey, RunsCommand, RunsMacro, UsesPattern, GoesOn, ShowsFile, NotesFile, GrantsLeave, GoesNormal, TakesArguments, NotesComing, NotesGoing, TakesDue, BeginsHook, TakesParameter, KeepsFault, Happened, WasAsked, Began}
use Rattle.kak_engine.specs.Doing.{task_row}

-- a key came part of the way, by the mode of its client
abbrev pub IsPartInMode : Mode → Key → ℕ → Flat → Flat → Type 0
IsPartInMode Normal key who old new = IsPartOfNormal key who old new
IsPartInMode Insert key who old new = IsPartOfInsert (pending_of who old) key who old new
IsPartInMode Prompt key who old new = IsPartOfPrompt who old new

-- a task came part of the way; where its row does nothing that takes memory, it leaves the world then
abbrev pub IsPartOfTask : Task → ℕ → Flat → Flat → Type 0
IsPartOfTask (RunsKey key) who old new = IsPartInMode (mode_of who old) key who old new
IsPartOfTask (RunsCommand command) who old new = IsUnheard (row_command command who old) old new
IsPartOfTask (RunsMacro macro) who old new = new ≡ old
IsPartOfTask (UsesPattern wanted made) who old new = new ≡ old
IsPartOfTask (GoesOn later) who old new = IsUnheard (row_later later who old) old new
IsPartOfTask (ShowsFile name read) who old new = IsPartOfRead name read who old new
IsPartOfTask (NotesFile saving put) who old new = IsPartOfSaved saving put who old new
IsPartOfTask GrantsLeave who old new = new ≡ old
IsPartOfTask GoesNormal who old new = new ≡ old
IsPartOfTask (TakesArguments arguments) who old new = new ≡ old
IsPartOfTask NotesComing who old new = IsUnheard (does (coming_noted who old)) old new
IsPartOfTask NotesGoing who old new = new ≡ old
IsPartOfTask TakesDue who old new = new ≡ old
IsPartOfTask (BeginsHook at parameter) who old new = new ≡ old
IsPartOfTask (TakesParameter parameter) who old new = new ≡ old
IsPartOfTask (KeepsFault fault) who old new = new ≡ old

-- a task that began in a world came part of the way, or its row was done
abbrev pub IsWithinTask : Task → ℕ → Flat → Flat → Type 0
IsWithinTask task who old new = IsPartOfTask task who old new ⊎ (new ≡ (task_row task who old).world)

-- a world is left so by what happened: by the last task that began; where none did, it stood before
abbrev pub IsLeftBy : (Flat → Type 0) → List Happened → Flat → Type 0
IsLeftBy stood [] new = stood new
IsLeftBy stood (WasAsked what ∷ later) new = IsLeftBy stood later new
IsLeftBy stood (Began who task flat ∷ later) new = IsLeftBy (IsWithinTask task who flat) later new
