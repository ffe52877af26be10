-- What a row asks for is done: the one recursion of the editor, bounded by the units that are left.
use Rattle.std.specs.Prelude.{ℕ, zero, suc, ◌+◌, ◌*◌, nat_lt, ◌&&◌, Bool, true, false, List, [], ◌∷◌, ◌++◌, codes, encode_utf8_all, Some, None, is_some, Ok, Err}
use Rattle.std.specs.declared.option.Option.{Option}
use Rattle.std.specs.declared.result.Result.{Result}
use Rattle.key_names.specs.declared.key.Key.{Key}
use Rattle.key_names.specs.Printing.{spelling}
use Rattle.kak_words.specs.declared.parts.Command.{Command}
use Rattle.kak_files.specs.declared.files.FileRead.{FileRead}
use Rattle.kak_files.specs.Exchanges.{Read as WasRead, Written}
use Rattle.kak_ports.specs.declared.sink.Put.{Put}
use Rattle.kak_world.specs.declared.ask.Ask.{Ask}
use Rattle.kak_world.specs.declared.ask.Ask.TheVariants.{Nothing, Commands, Play, Eval, Try, Call, Make, Read, Write, Then, Leave}
use Rattle.kak_world.specs.declared.ask.EditError.{EditError}
use Rattle.kak_world.specs.declared.ask.EditError.TheVariants.{BudgetSpent}
use Rattle.kak_world.specs.declared.ask.Saving.{Saving}
use Rattle.kak_world.specs.declared.playing.Macro.{Macro}
use Rattle.kak_world.specs.declared.playing.PlayKeys.{PlayKeys}
use Rattle.kak_world.specs.declared.own.Mode.{Mode}
use Rattle.kak_world.specs.declared.own.Mode.TheVariants.{Normal, Insert, Prompt}
use Rattle.edit_line.specs.Halves.{empty}
use Rattle.scope_tables.specs.declared.hooks.HookRef.{HookRef}
use Rattle.scope_tables.specs.declared.names.HookName.{HookName}
use Rattle.scope_tables.specs.declared.names.HookName.TheVariants.{NormalKey, InsertKey}
use Rattle.kak_world.specs.declared.events.Fault.{Fault}
use Rattle.kak_world.specs.declared.events.HookEvent.{HookEvent}
use Rattle.kak_world.specs.Flat.{Flat, mode_of, shown_of, units_of, with_own, with_units}
use Rattle.kak_world.specs.Events.{event_of, due_of, with_due, mode_left, coming_noted, going_noted, hooks_heard, hook_text, parameter_of, with_parameter, hook_begun, faults_of, fault_kept}
use Rattle.kak_world.specs.Running.{arguments_of, with_arguments, keys_mapped}
use Rattle.kak_world.specs.Rows.{Row, Asks, Fails, GivesUp, RowEnd, does, error_text, stages_of}
use Rattle.normal_keys.specs.Rows.{row_normal}
use Rattle.key_rows.specs.Playing.{row_macro}
use Rattle.insert_prompt.specs.Rows.{row_insert, row_prompt}
use Rattle.command_set.specs.Reading.{commands_told}
use Rattle.command_set.specs.Rows.{row_command}
use Rattle.command_set.specs.Buffers.{row_later}
use Rattle.command_set.specs.Files.{row_read, saved_bytes, row_saved}
use Rattle.command_set.specs.Finishing.{row_finish}
use Rattle.session_events.specs.declared.event.Answered.{Answered}
use Rattle.kak_engine.specs.declared.place.Place.{Place}
use Rattle.kak_engine.specs.declared.place.TheConstants.{MAX_DEPTH}
use Rattle.kak_engine.specs.Answering.{as_made, as_read, as_put}
use Rattle.kak_engine.specs.Asking.{Asked, OfPattern, OfFile}
use Rattle.kak_engine.specs.Course.{Task, RunsKey, RunsCommand, RunsMacro, UsesPattern, GoesOn, ShowsFile, NotesFile, GrantsLeave, GoesNormal, TakesArguments, NotesComing, NotesGoing, TakesDue, BeginsHook, TakesParameter, KeepsFault, Happened, WasAsked, Began}

-- How doing something ended: well, with an error, or given up. Errors and giving up have a status text.
pub data DoingEnd : Type 0 where
  Fine : DoingEnd
  Failed : Fault → DoingEnd
  GivenUp : List ℕ → DoingEnd

-- a moment of a step: the world, the outside's answers that are still to come, whether each so far was of the kind that
-- was asked for, and what happened so far, in order
pub record Moment : Type 0 where
  pub world : Flat
  pub answers : List Answered
  pub fit : Bool
  pub course : List Happened

-- the moment after something, and how it ended
pub record Outcome : Type 0 where
  pub moment : Moment
  pub end : DoingEnd

-- a part of a step
abbrev pub Part : Type 0
Part = Moment → Outcome

-- the place where a client's step begins, and one deeper than another
abbrev pub top : ℕ → Place
top who = record { who = who; depth = 0; hooks = true }

abbrev pub deeper : Place → Place
deeper p = record p { depth = p.depth + 1 }

-- how rows are done
abbrev pub Go : Type 0
Go = Place → Row → Part

-- the texts of a step that had no unit left, and of one that would have gone deeper than it may
abbrev pub budget_spent : List ℕ
budget_spent = error_text BudgetSpent

abbrev pub nested_too_deep : List ℕ
nested_too_deep = codes "given up: nested too deep"

abbrev pub done_as : DoingEnd → Part
done_as end m = record { moment = m; end = end }

-- an error that arises when so many errors of hooks have been told
abbrev pub fault_at : ℕ → List ℕ → Fault
fault_at told text = record { at = told; text = text }

-- how something ends that was refused: given up where its units were spent, else with the text of the refusal
abbrev pub end_by_error : ℕ → EditError → DoingEnd
end_by_error told BudgetSpent = GivenUp budget_spent
end_by_error told error = Failed (fault_at told (error_text error))

abbrev pub in_world : Flat → Moment → Moment
in_world world m = record m { world = world }

-- one part after another, up to the first that doesn't end well
abbrev pub next_after : DoingEnd → Part → Part
next_after Fine next m = next m
next_after (Failed fault) next m = done_as (Failed fault) m
next_after (GivenUp text) next m = done_as (GivenUp text) m

abbrev pub and_then : Outcome → Part → Outcome
and_then o next = next_after o.end next o.moment

abbrev pub each : {A : Type 0} → (A → Part) → List A → Part
each f [] m = done_as Fine m
each f (x ∷ xs) m = and_then (f x m) (each f xs)

-- another part where one ended with an error; giving up isn't caught
abbrev pub catch_after : DoingEnd → Part → Part
catch_after Fine other m = done_as Fine m
catch_after (Failed fault) other m = other m
catch_after (GivenUp text) other m = done_as (GivenUp text) m

abbrev pub or_else : Outcome → Part → Outcome
or_else o other = catch_after o.end other o.moment

-- the end of a part behind which another one was done: its own, unless the step was given up by the other one
abbrev pub end_still : DoingEnd → DoingEnd → DoingEnd
end_still first Fine = first
end_still first (Failed fault) = first
end_still first (GivenUp text) = GivenUp text

abbrev pub ended_still : DoingEnd → Outcome → Outcome
ended_still first o = done_as (end_still first o.end) o.moment

-- another part behind one that wasn't given up; an error of the first one stands
abbrev pub also_after : DoingEnd → Part → Part
also_after Fine next m = ended_still Fine (next m)
also_after (Failed fault) next m = ended_still (Failed fault) (next m)
also_after (GivenUp text) next m = done_as (GivenUp text) m

abbrev pub and_also : Outcome → Part → Outcome
and_also o next = also_after o.end next o.moment

-- what is done behind a part however it ended, and doesn't change that
abbrev pub finally : (Moment → Moment) → Outcome → Outcome
finally last o = done_as o.end (last o.moment)

-- a part that takes a unit first; without one the step is given up
abbrev pub unit_of : ℕ → Part → Part
unit_of zero part m = done_as (GivenUp budget_spent) m
unit_of (suc left) part m = part (in_world (with_units left m.world) m)

abbrev pub with_unit : Part → Part
with_unit part m = unit_of (units_of m.world) part m

-- a part that is done one deeper, where a step may go so deep; else the step is given up
abbrev pub if_room : Bool → Part → Part
if_room true part m = part m
if_room false part m = done_as (GivenUp nested_too_deep) m

abbrev pub nested : Place → (Place → Part) → Part
nested p part m = if_room (nat_lt p.depth MAX_DEPTH) (part (deeper p)) m

-- the row of a key, by the mode of the client
abbrev pub row_in : Mode → Key → ℕ → Flat → RowEnd
row_in Normal key who flat = row_normal key who flat
row_in Insert key who flat = row_insert key who flat
row_in Prompt key who flat = row_prompt key who flat

abbrev pub row_key : Key → ℕ → Flat → RowEnd
row_key key who flat = row_in (mode_of who flat) key who flat

-- the client is granted to leave
abbrev pub granted : ℕ → Flat → Flat
granted who flat = with_own who (λ o. record o { leaving = true }) flat

-- the client is in normal mode with nothing begun: no count, no register, no key that waits, an empty prompt, and nothing that
-- leaving insert mode would take back; its selections stay. Hooks hear of it where it was in another mode
abbrev pub normal_again : ℕ → Flat → Flat
normal_again who flat =
    with_own who (λ o. record o { mode = Normal; count = 0; register = None; pending = None; appending = false; prompt = empty }) (mode_left (mode_of who flat) who flat)

-- the row of a task
abbrev pub task_row : Task → ℕ → Flat → RowEnd
task_row (RunsKey key) who flat = row_key key who flat
task_row (RunsCommand command) who flat = row_command command who flat
task_row (RunsMacro macro) who flat = row_macro macro who flat
task_row (UsesPattern wanted made) who flat = row_finish wanted made who flat
task_row (GoesOn later) who flat = row_later later who flat
task_row (ShowsFile name read) who flat = row_read name read who flat
task_row (NotesFile saving put) who flat = row_saved saving put who flat
task_row GrantsLeave who flat = does (granted who flat)
task_row GoesNormal who flat = does (normal_again who flat)
task_row (TakesArguments arguments) who flat = does (with_arguments arguments flat)
task_row NotesComing who flat = does (coming_noted who flat)
task_row NotesGoing who flat = does (going_noted who flat)
task_row TakesDue who flat = does (with_due [] flat)
task_row (BeginsHook at parameter) who flat = does (hook_begun at parameter flat)
task_row (TakesParameter parameter) who flat = does (with_parameter parameter flat)
task_row (KeepsFault fault) who flat = does (fault_kept who fault flat)

-- a moment at which a task of a client begins
abbrev pub beginning : ℕ → Task → Moment → Moment
beginning who task m = record m { course = m.course ++ Began who task m.world ∷ [] }

-- the moment behind a task whose row asks for nothing
abbrev pub task_done : ℕ → Task → Moment → Moment
task_done who task m = in_world (task_row task who m.world).world (beginning who task m)

-- a row, and what comes behind it
abbrev pub go_on : Go → Place → RowEnd → Part
go_on go p end m = go p end.row (in_world end.world m)

-- a task: its row, and what comes behind that
abbrev pub run_task : Go → Place → Task → Part
run_task go p task m = go_on go p (task_row task p.who m.world) (beginning p.who task m)

-- one command, which takes a unit
abbrev pub run_command : Go → Place → Command → Part
run_command go p command m = with_unit (run_task go p (RunsCommand command)) m

-- the commands of a text, one after another up to the first error; or why the text has none
abbrev pub run_read : Go → Place → Result (List Command) EditError → Part
run_read go p (Ok commands) m = each (run_command go p) commands m
run_read go p (Err error) m = done_as (end_by_error (faults_of m.world) error) m

-- a text as commands: it is read whole before the first one is run
abbrev pub run_text : Go → Place → List ℕ → Part
run_text go p text m = run_read go p (commands_told text) m

-- the same one deeper
abbrev pub run_deeper : Go → Place → List ℕ → Part
run_deeper go p text m = nested p (λ q. run_text go q text) m

-- the same with words as arguments; behind it stand those of before
abbrev pub run_with : Go → Place → List (List ℕ) → List ℕ → Part
run_with go p words text m =
    finally (task_done p.who (TakesArguments (arguments_of m.world))) (run_text go p text (task_done p.who (TakesArguments (Some words)) m))

-- the end of a hook that was run, and the world then: an error ends it alone, and its client is told of that
abbrev pub hook_end : DoingEnd → DoingEnd
hook_end Fine = Fine
hook_end (Failed fault) = Fine
hook_end (GivenUp text) = GivenUp text

abbrev pub hook_flat : ℕ → DoingEnd → Flat → Flat
hook_flat who Fine flat = flat
hook_flat who (Failed fault) flat = fault_kept who fault flat
hook_flat who (GivenUp text) flat = flat

-- the same as a part
abbrev pub hook_ends : ℕ → DoingEnd → Part
hook_ends who Fine m = done_as Fine m
hook_ends who (Failed fault) m = done_as Fine (task_done who (KeepsFault fault) m)
hook_ends who (GivenUp text) m = done_as (GivenUp text) m

abbrev pub hook_over : ℕ → Outcome → Outcome
hook_over who o = hook_ends who o.end o.moment

-- a hook on an event of a parameter, by the text that it runs: one that isn't held any more runs none. Behind it the parameter of
-- before counts
abbrev pub run_held : Go → Place → List ℕ → HookRef → Option (List ℕ) → Part
run_held go p parameter at None m = done_as Fine m
run_held go p parameter at (Some text) m =
    hook_over p.who (finally (task_done p.who (TakesParameter (parameter_of m.world))) (run_deeper go p text (task_done p.who (BeginsHook at parameter) m)))

abbrev pub run_hook : Go → Place → List ℕ → HookRef → Part
run_hook go p parameter at m = run_held go p parameter at (hook_text at m.world) m

-- the hooks of an event, which are found before the first of them is run
abbrev pub run_event : Go → Place → HookEvent → Part
run_event go p event m = each (run_hook go p event.parameter) (hooks_heard event p.who m.world) m

-- those of events that were due, in order, where hooks are run
abbrev pub run_events : Bool → Go → Place → List HookEvent → Part
run_events true go p events m = each (run_event go p) events m
run_events false go p events m = done_as Fine m

-- all events that are due are taken at once, and then their hooks are run
abbrev pub settle_due : Go → Place → List HookEvent → Part
settle_due go p [] m = done_as Fine m
settle_due go p (event ∷ events) m = run_events p.hooks go p (event ∷ events) (task_done p.who TakesDue m)

abbrev pub settle : Go → Place → Part
settle go p m = settle_due go p (due_of m.world) m

-- a task whose row asks for nothing, and the hooks of what it did
abbrev pub task_settled : Go → Place → Task → Part
task_settled go p task m = settle go p (task_done p.who task m)

-- a key that was run, as hooks hear it
abbrev pub key_event : HookName → Key → ℕ → Flat → HookEvent
key_event name key who flat = event_of name (encode_utf8_all (spelling key)) (shown_of who flat)

abbrev pub hear : Bool → Go → Place → HookEvent → Part
hear true go p event m = run_event go p event m
hear false go p event m = done_as Fine m

-- by which name hooks hear a key, by the mode in which it began; they hear none of a prompt
abbrev pub key_name : Mode → Option HookName
key_name Normal = Some NormalKey
key_name Insert = Some InsertKey
key_name Prompt = None

-- the hooks of a key by that name
abbrev pub hooks_named : Go → Place → Option HookName → Key → Part
hooks_named go p None key m = done_as Fine m
hooks_named go p (Some name) key m = hear p.hooks go p (key_event name key p.who m.world) m

abbrev pub key_hooks : Go → Place → Mode → Key → Part
key_hooks go p mode key m = hooks_named go p (key_name mode) key m

-- the run of a key, which takes a unit: its row with all that this asks for, and then its hooks, also behind an error
abbrev pub strike : Go → Place → Key → Part
strike go p key m = and_also (with_unit (run_task go p (RunsKey key)) m) (key_hooks go p (mode_of p.who m.world) key)

-- a key, or those that it stands for: they are run one deeper, and none of them stands for others
abbrev pub strike_mapped : Go → Place → Option (List Key) → Key → Part
strike_mapped go p None key m = strike go p key m
strike_mapped go p (Some keys) key m = nested p (λ q. each (strike go q) keys) m

-- a key by what it is mapped to in the mode that stands, where maps are asked for
abbrev pub play_key : Go → Place → Bool → Key → Part
play_key go p false key m = strike go p key m
play_key go p true key m = strike_mapped go p (keys_mapped p.who key m.world) key m

-- behind keys that were played the client is in normal mode again, however they ended; where the step was given up no hook is run of that
abbrev pub normal_behind : Go → Place → DoingEnd → Part
normal_behind go p Fine m = ended_still Fine (task_settled go p GoesNormal m)
normal_behind go p (Failed fault) m = ended_still (Failed fault) (task_settled go p GoesNormal m)
normal_behind go p (GivenUp text) m = done_as (GivenUp text) (task_done p.who GoesNormal m)

abbrev pub normal_after : Go → Place → Outcome → Outcome
normal_after go p o = normal_behind go p o.end o.moment

-- keys that are played from normal mode on
abbrev pub play_once : Go → Place → PlayKeys → Part
play_once go p play m = normal_after go p (and_then (task_settled go p GoesNormal m) (each (play_key go p play.maps) play.keys))

-- a place in which hooks are run where they are asked for; where they aren't, no hook is run inside it either
abbrev pub quiet_unless : Bool → Place → Place
quiet_unless hooks p = record p { hooks = p.hooks && hooks }

-- the same one deeper
abbrev pub play_nested : Go → Place → PlayKeys → Part
play_nested go p play m = nested p (λ q. play_once go (quiet_unless play.hooks q) play) m

-- a macro that is run once more, which takes a unit
abbrev pub play_again : Go → Place → Option Macro → Part
play_again go p None m = done_as Fine m
play_again go p (Some macro) m = with_unit (run_task go p (RunsMacro macro)) m

-- a part that is handed an answer, where that is of the kind that was asked for; else the answers don't fit
abbrev pub taken_as : {A : Type 0} → Option A → (A → Part) → List Answered → Part
taken_as (Some x) part later m = part x (record m { answers = later })
taken_as None part later m = done_as Fine (record m { fit = false })

-- a part that is handed the next answer of the outside; with none left they don't fit either
abbrev pub next_as : {A : Type 0} → (Answered → Option A) → (A → Part) → List Answered → Part
next_as kind part [] m = done_as Fine (record m { fit = false })
next_as kind part (answer ∷ later) m = taken_as (kind answer) part later m

-- a moment behind one thing more that the outside was asked for
abbrev pub asking : Asked → Moment → Moment
asking what m = record m { course = m.course ++ WasAsked what ∷ [] }

-- the task that goes on with an answer, behind what the outside was asked for by it
abbrev pub go_back : {A : Type 0} → Go → Place → (A → Flat → Asked) → (A → Task) → A → Part
go_back go p what task answer m = run_task go p (task answer) (asking (what answer m.world) m)

-- what the outside was asked for where a pattern is made, a file is read, and one is written
abbrev pub by_making : List ℕ → Option (List ℕ) → Flat → Asked
by_making text made flat = OfPattern text (is_some made)

abbrev pub by_reading : List ℕ → FileRead → Flat → Asked
by_reading name read flat = OfFile (WasRead name read)

abbrev pub by_writing : Saving → Put → Flat → Asked
by_writing saving put flat = OfFile (Written saving.file (saved_bytes saving flat) put)

-- what an ask leads to
abbrev pub do_ask : Go → Place → Ask → Part
do_ask go p Nothing m = done_as Fine m
do_ask go p (Commands text) m = run_text go p text m
do_ask go p (Play play) m = and_then (play_nested go p play m) (play_again go p play.again)
do_ask go p (Eval text) m = run_deeper go p text m
do_ask go p (Try texts) m = or_else (run_deeper go p texts.first m) (run_deeper go p texts.catching)
do_ask go p (Call call) m = nested p (λ q. run_with go q call.arguments call.text) m
do_ask go p (Make wanted) m = next_as (as_made (encode_utf8_all wanted.pattern)) (go_back go p (by_making (encode_utf8_all wanted.pattern)) (UsesPattern wanted.then)) m.answers m
do_ask go p (Read name) m = next_as as_read (go_back go p (by_reading name) (ShowsFile name)) m.answers m
do_ask go p (Then later) m = run_task go p (GoesOn later) m
do_ask go p (Write saving) m = next_as as_put (go_back go p (by_writing saving) (NotesFile saving)) m.answers m
do_ask go p Leave m = done_as Fine (task_done p.who GrantsLeave m)

-- what comes behind a row: the hooks of what it did, also where it failed, and then what it asks for, or its error, which arose before
-- them; where its units were spent no hook is run
abbrev pub row_body : Go → Go
row_body go p (Asks ask) m = and_then (settle go p m) (do_ask go p ask)
row_body go p (Fails text) m = and_then (settle go p m) (done_as (Failed (fault_at (faults_of m.world) text)))
row_body go p GivesUp m = done_as (GivenUp budget_spent) m

-- the same, with calls of itself inside one another at most so often
unfoldable pub do_within : ℕ → Go
do_within zero p row m = done_as (GivenUp budget_spent) m
do_within (suc n) p row m = row_body (do_within n) p row m

-- how often that may be: each such call has taken a unit, or is a later stage of its row
abbrev pub depth_of : Row → Flat → ℕ
depth_of row flat = 4 * units_of flat + stages_of row

-- the same, as often as it goes
unfoldable pub Do : Go
Do p row m = do_within (suc (depth_of row m.world)) p row m
