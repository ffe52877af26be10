-- What happened stands, and more happens behind it.
use Rattle.std.proofs.Common.{◌≡◌, ℕ, zero, suc, Bool, true, false, nat_lt, List, [], ◌∷◌, ◌++◌, refl, sym, ap, ◌∙◌, append-nil}
use Rattle.std.specs.Prelude.{Some, None, Ok, Err, encode_utf8_all}
use Rattle.std.specs.declared.option.Option.{Option}
use Rattle.std.specs.declared.result.Result.{Result}
use Rattle.std.proofs.lemmas.List.{append_assoc}
use Rattle.key_names.specs.declared.key.Key.{Key}
use Rattle.kak_words.specs.declared.parts.Command.{Command}
use Rattle.kak_world.specs.declared.ask.Ask.{Ask}
use Rattle.kak_world.specs.declared.ask.Ask.TheVariants.{Nothing, Commands, Play, Eval, Try, Call, Make, Read, Write, Then, Leave}
use Rattle.kak_world.specs.declared.ask.EditError.{EditError}
use Rattle.kak_world.specs.declared.playing.Macro.{Macro}
use Rattle.kak_world.specs.declared.playing.PlayKeys.{PlayKeys}
use Rattle.scope_tables.specs.declared.hooks.HookRef.{HookRef}
use Rattle.scope_tables.specs.declared.names.HookName.{HookName}
use Rattle.kak_world.specs.declared.events.HookEvent.{HookEvent}
use Rattle.kak_world.specs.declared.own.Mode.{Mode}
use Rattle.kak_world.specs.Flat.{Flat, mode_of, units_of, with_units}
use Rattle.kak_world.specs.Events.{due_of, hooks_heard, hook_text, parameter_of, faults_of}
use Rattle.kak_world.specs.Running.{arguments_of, keys_mapped}
use Rattle.kak_world.specs.Rows.{Row, Asks, Fails, GivesUp, RowEnd}
use Rattle.command_set.specs.Reading.{commands_told}
use Rattle.session_turns.specs.Growth.{Begins}
use Rattle.session_events.specs.declared.event.Answered.{Answered}
use Rattle.kak_engine.specs.declared.place.Place.{Place}
use Rattle.kak_engine.specs.declared.place.TheConstants.{MAX_DEPTH}
use Rattle.kak_engine.specs.Answering.{as_made, as_read, as_put}
use Rattle.kak_engine.specs.Asking.{Asked}
use Rattle.kak_engine.specs.Course.{Task, RunsKey, RunsCommand, RunsMacro, UsesPattern, GoesOn, ShowsFile, NotesFile, GrantsLeave, GoesNormal, TakesArguments, TakesDue, BeginsHook, TakesParameter, KeepsFault, Happened, WasAsked, Began}
use Rattle.kak_engine.specs.Doing.{DoingEnd, Fine, Failed, GivenUp, Moment, Outcome, Part, Go, deeper, done_as, fault_at, in_world, next_after, and_then, each, catch_after, or_else, also_after, and_also, finally, unit_of, with_unit, if_room, nested, go_on, task_row, beginning, run_task, task_done, run_command, run_read, run_text, run_deeper, run_with, hook_ends, hook_over, run_held, run_hook, run_event, run_events, settle_due, settle, task_settled, hear, key_name, hooks_named, key_hooks, strike, strike_mapped, play_key, normal_behind, normal_after, play_once, quiet_unless, play_nested, play_again, taken_as, next_as, asking, go_back, by_making, by_reading, by_writing, do_ask, row_body, depth_of, do_within, Do}

-- a list begins with itself, and with what it began with before
pub begins-same : {A : Type 0} (a : List A) → Begins a a
begins-same a = ([], sym (append-nil a))

begins-then : {A : Type 0} (a b c d e : List A) → b ≡ a ++ d → c ≡ b ++ e → c ≡ a ++ (d ++ e)
begins-then a b c d e f g = g ∙ ap (λ q. q ++ e) f ∙ append_assoc a d e

pub begins-behind : {A : Type 0} (a b c : List A) → Begins b a → Begins c b → Begins c a
begins-behind a b c f g = (f.0 ++ g.0, begins-then a b c f.0 g.0 f.1 g.1)

begins-one : (a : List Happened) (what : Happened) → Begins (a ++ what ∷ []) a
begins-one a what = (what ∷ [], refl)

-- a part of a step in which more happens, wherever it begins
abbrev pub Grows : Part → Type 0
Grows part = (m : Moment) → Begins (part m).moment.course m.course

-- a way to do rows that does so
abbrev pub GrowsAll : Go → Type 0
GrowsAll go = (p : Place) (row : Row) → Grows (go p row)

grows-behind : (e : DoingEnd) (next : Part) → Grows next → Grows (λ m. next_after e next m)
grows-behind Fine next k m = k m
grows-behind (Failed fault) next k m = begins-same m.course
grows-behind (GivenUp text) next k m = begins-same m.course

pub grows-then : (o : Outcome) (next : Part) → Grows next → Begins (and_then o next).moment.course o.moment.course
grows-then o next k = grows-behind o.end next k o.moment

pub grows-both : (first next : Part) → Grows first → Grows next → Grows (λ m. and_then (first m) next)
grows-both first next k l m = begins-behind m.course (first m).moment.course (and_then (first m) next).moment.course (k m) (grows-then (first m) next l)

grows-catch : (e : DoingEnd) (other : Part) → Grows other → Grows (λ m. catch_after e other m)
grows-catch Fine other k m = begins-same m.course
grows-catch (Failed fault) other k m = k m
grows-catch (GivenUp text) other k m = begins-same m.course

pub grows-else : (o : Outcome) (other : Part) → Grows other → Begins (or_else o other).moment.course o.moment.course
grows-else o other k = grows-catch o.end other k o.moment

grows-either : (first other : Part) → Grows first → Grows other → Grows (λ m. or_else (first m) other)
grows-either first other k l m = begins-behind m.course (first m).moment.course (or_else (first m) other).moment.course (k m) (grows-else (first m) other l)

grows-also : (e : DoingEnd) (next : Part) → Grows next → Grows (λ m. also_after e next m)
grows-also Fine next k m = k m
grows-also (Failed fault) next k m = k m
grows-also (GivenUp text) next k m = begins-same m.course

pub grows-with-also : (o : Outcome) (next : Part) → Grows next → Begins (and_also o next).moment.course o.moment.course
grows-with-also o next k = grows-also o.end next k o.moment

grows-beside : (first next : Part) → Grows first → Grows next → Grows (λ m. and_also (first m) next)
grows-beside first next k l m = begins-behind m.course (first m).moment.course (and_also (first m) next).moment.course (k m) (grows-with-also (first m) next l)

pub grows-each : {A : Type 0} (f : A → Part) → ((x : A) → Grows (f x)) → (xs : List A) → Grows (each f xs)
grows-each f k [] m = begins-same m.course
grows-each f k (x ∷ xs) m = grows-both (f x) (each f xs) (k x) (grows-each f k xs) m

grows-units : (units : ℕ) (part : Part) → Grows part → Grows (λ m. unit_of units part m)
grows-units zero part k m = begins-same m.course
grows-units (suc left) part k m = k (in_world (with_units left m.world) m)

pub grows-unit : (part : Part) → Grows part → Grows (with_unit part)
grows-unit part k m = grows-units (units_of m.world) part k m

grows-room : (room : Bool) (part : Part) → Grows part → Grows (λ m. if_room room part m)
grows-room true part k m = k m
grows-room false part k m = begins-same m.course

pub grows-nested : (p : Place) (part : Place → Part) → ((q : Place) → Grows (part q)) → Grows (λ m. nested p part m)
grows-nested p part k m = grows-room (nat_lt p.depth MAX_DEPTH) (part (deeper p)) (k (deeper p)) m

-- a task that is done, and one behind a part
grows-done : (who : ℕ) (task : Task) (m : Moment) → Begins (task_done who task m).course m.course
grows-done who task m = begins-one m.course (Began who task m.world)

pub grows-from : (who : ℕ) (task : Task) (part : Part) → Grows part → Grows (λ m. part (task_done who task m))
grows-from who task part k m = begins-behind m.course (task_done who task m).course (part (task_done who task m)).moment.course (grows-done who task m) (k (task_done who task m))

pub grows-finally : (who : ℕ) (task : Task) (o : Outcome) → Begins (finally (task_done who task) o).moment.course o.moment.course
grows-finally who task o = grows-done who task o.moment

pub grows-row : (go : Go) (p : Place) (end : RowEnd) → GrowsAll go → Grows (λ m. go_on go p end m)
grows-row go p end all m = all p end.row (in_world end.world m)

pub grows-task : (go : Go) (p : Place) (task : Task) → GrowsAll go → Grows (run_task go p task)
grows-task go p task all m =
    begins-behind m.course (beginning p.who task m).course (run_task go p task m).moment.course (begins-one m.course (Began p.who task m.world)) (grows-row go p (task_row task p.who m.world) all (beginning p.who task m))

-- a task behind a unit: a command, a key, and a macro that is run once more
pub grows-taking : (go : Go) (p : Place) (task : Task) → GrowsAll go → Grows (λ m. with_unit (run_task go p task) m)
grows-taking go p task all m = grows-unit (run_task go p task) (grows-task go p task all) m

pub grows-command : (go : Go) (p : Place) (command : Command) → GrowsAll go → Grows (run_command go p command)
grows-command go p command all m = grows-taking go p (RunsCommand command) all m

pub grows-read : (go : Go) (p : Place) (read : Result (List Command) EditError) → GrowsAll go → Grows (run_read go p read)
grows-read go p (Ok commands) all m = grows-each (run_command go p) (λ c. grows-command go p c all) commands m
grows-read go p (Err error) all m = begins-same m.course

pub grows-text : (go : Go) (p : Place) (text : List ℕ) → GrowsAll go → Grows (run_text go p text)
grows-text go p text all m = grows-read go p (commands_told text) all m

pub grows-deeper : (go : Go) (p : Place) (text : List ℕ) → GrowsAll go → Grows (run_deeper go p text)
grows-deeper go p text all m = grows-nested p (λ q. run_text go q text) (λ q. grows-text go q text all) m

pub grows-with : (go : Go) (p : Place) (words : List (List ℕ)) (text : List ℕ) → GrowsAll go → Grows (run_with go p words text)
grows-with go p words text all m =
    let o : Outcome = run_text go p text (task_done p.who (TakesArguments (Some words)) m) in
    begins-behind m.course o.moment.course (run_with go p words text m).moment.course
    (grows-from p.who (TakesArguments (Some words)) (run_text go p text) (grows-text go p text all) m)
    (grows-finally p.who (TakesArguments (arguments_of m.world)) o)

-- a hook, the hooks of an event, and those of all events that are due
pub grows-ends : (who : ℕ) (e : DoingEnd) → Grows (hook_ends who e)
grows-ends who Fine m = begins-same m.course
grows-ends who (Failed fault) m = grows-done who (KeepsFault fault) m
grows-ends who (GivenUp text) m = begins-same m.course

pub grows-held : (go : Go) (p : Place) (parameter : List ℕ) (at : HookRef) (text : Option (List ℕ)) → GrowsAll go → Grows (run_held go p parameter at text)
grows-held go p parameter at None all m = begins-same m.course
grows-held go p parameter at (Some text) all m =
    let first : Outcome = run_deeper go p text (task_done p.who (BeginsHook at parameter) m) in
    let o : Outcome = finally (task_done p.who (TakesParameter (parameter_of m.world))) first in
    begins-behind m.course o.moment.course (hook_over p.who o).moment.course
    (begins-behind m.course first.moment.course o.moment.course (grows-from p.who (BeginsHook at parameter) (run_deeper go p text) (grows-deeper go p text all) m) (grows-finally p.who (TakesParameter (parameter_of m.world)) first))
    (grows-ends p.who o.end o.moment)

pub grows-hook : (go : Go) (p : Place) (parameter : List ℕ) (at : HookRef) → GrowsAll go → Grows (run_hook go p parameter at)
grows-hook go p parameter at all m = grows-held go p parameter at (hook_text at m.world) all m

pub grows-event : (go : Go) (p : Place) (event : HookEvent) → GrowsAll go → Grows (run_event go p event)
grows-event go p event all m = grows-each (run_hook go p event.parameter) (λ at. grows-hook go p event.parameter at all) (hooks_heard event p.who m.world) m

grows-events : (go : Go) (hooks : Bool) (p : Place) (events : List HookEvent) → GrowsAll go → Grows (run_events hooks go p events)
grows-events go true p events all m = grows-each (run_event go p) (λ event. grows-event go p event all) events m
grows-events go false p events all m = begins-same m.course

grows-due : (go : Go) (p : Place) (events : List HookEvent) → GrowsAll go → Grows (settle_due go p events)
grows-due go p [] all m = begins-same m.course
grows-due go p (event ∷ events) all m = grows-from p.who TakesDue (run_events p.hooks go p (event ∷ events)) (grows-events go p.hooks p (event ∷ events) all) m

pub grows-settle : (go : Go) (p : Place) → GrowsAll go → Grows (settle go p)
grows-settle go p all m = grows-due go p (due_of m.world) all m

pub grows-settled : (go : Go) (p : Place) (task : Task) → GrowsAll go → Grows (task_settled go p task)
grows-settled go p task all m = grows-from p.who task (settle go p) (grows-settle go p all) m

-- a key, and the hooks of it
grows-hear : (go : Go) (hooks : Bool) (p : Place) (event : HookEvent) → GrowsAll go → Grows (hear hooks go p event)
grows-hear go true p event all m = grows-event go p event all m
grows-hear go false p event all m = begins-same m.course

grows-named : (go : Go) (p : Place) (name : Option HookName) (key : Key) → GrowsAll go → Grows (hooks_named go p name key)
grows-named go p None key all m = begins-same m.course
grows-named go p (Some name) key all m = grows-hear go p.hooks p _ all m

pub grows-hooks : (go : Go) (p : Place) (mode : Mode) (key : Key) → GrowsAll go → Grows (key_hooks go p mode key)
grows-hooks go p mode key all m = grows-named go p (key_name mode) key all m

pub grows-strike : (go : Go) (p : Place) (key : Key) → GrowsAll go → Grows (strike go p key)
grows-strike go p key all m =
    grows-beside (λ n. with_unit (run_task go p (RunsKey key)) n) (key_hooks go p (mode_of p.who m.world) key) (grows-taking go p (RunsKey key) all) (grows-hooks go p (mode_of p.who m.world) key all) m

grows-mapped : (go : Go) (p : Place) (keys : Option (List Key)) (key : Key) → GrowsAll go → Grows (strike_mapped go p keys key)
grows-mapped go p None key all m = grows-strike go p key all m
grows-mapped go p (Some keys) key all m = grows-nested p (λ q. each (strike go q) keys) (λ q. grows-each (strike go q) (λ k. grows-strike go q k all) keys) m

pub grows-key : (go : Go) (p : Place) (maps : Bool) (key : Key) → GrowsAll go → Grows (play_key go p maps key)
grows-key go p false key all m = grows-strike go p key all m
grows-key go p true key all m = grows-mapped go p (keys_mapped p.who key m.world) key all m

pub grows-normal : (go : Go) (p : Place) (e : DoingEnd) → GrowsAll go → Grows (normal_behind go p e)
grows-normal go p Fine all m = grows-settled go p GoesNormal all m
grows-normal go p (Failed fault) all m = grows-settled go p GoesNormal all m
grows-normal go p (GivenUp text) all m = grows-done p.who GoesNormal m

pub grows-once : (go : Go) (p : Place) (play : PlayKeys) → GrowsAll go → Grows (play_once go p play)
grows-once go p play all m =
    let o : Outcome = and_then (task_settled go p GoesNormal m) (each (play_key go p play.maps) play.keys) in
    begins-behind m.course o.moment.course (play_once go p play m).moment.course
    (grows-both (task_settled go p GoesNormal) (each (play_key go p play.maps) play.keys) (grows-settled go p GoesNormal all) (grows-each (play_key go p play.maps) (λ k. grows-key go p play.maps k all) play.keys) m)
    (grows-normal go p o.end all o.moment)

pub grows-played : (go : Go) (p : Place) (play : PlayKeys) → GrowsAll go → Grows (λ m. play_nested go p play m)
grows-played go p play all m = grows-nested p (λ q. play_once go (quiet_unless play.hooks q) play) (λ q. grows-once go (quiet_unless play.hooks q) play all) m

pub grows-again : (go : Go) (p : Place) (again : Option Macro) → GrowsAll go → Grows (play_again go p again)
grows-again go p None all m = begins-same m.course
grows-again go p (Some again) all m = grows-taking go p (RunsMacro again) all m

grows-taken : {A : Type 0} (o : Option A) (part : A → Part) (later : List Answered) → ((x : A) → Grows (part x)) → Grows (taken_as o part later)
grows-taken (Some x) part later k m = k x (record m { answers = later })
grows-taken None part later k m = begins-same m.course

grows-next : {A : Type 0} (kind : Answered → Option A) (part : A → Part) (answers : List Answered) → ((x : A) → Grows (part x)) → Grows (next_as kind part answers)
grows-next kind part [] k m = begins-same m.course
grows-next kind part (answer ∷ later) k m = grows-taken (kind answer) part later k m

grows-back : {A : Type 0} (go : Go) (p : Place) (what : A → Flat → Asked) (task : A → Task) → GrowsAll go → (x : A) → Grows (go_back go p what task x)
grows-back go p what task all x m =
    begins-behind m.course (asking (what x m.world) m).course (go_back go p what task x m).moment.course
    (begins-one m.course (WasAsked (what x m.world))) (grows-task go p (task x) all (asking (what x m.world) m))

pub grows-ask : (go : Go) (p : Place) (ask : Ask) → GrowsAll go → Grows (do_ask go p ask)
grows-ask go p Nothing all m = begins-same m.course
grows-ask go p (Commands text) all m = grows-text go p text all m
grows-ask go p (Play play) all m =
    grows-both (λ n. play_nested go p play n) (play_again go p play.again) (grows-played go p play all) (grows-again go p play.again all) m
grows-ask go p (Eval text) all m = grows-deeper go p text all m
grows-ask go p (Try texts) all m = grows-either (run_deeper go p texts.first) (run_deeper go p texts.catching) (grows-deeper go p texts.first all) (grows-deeper go p texts.catching all) m
grows-ask go p (Call call) all m = grows-nested p (λ q. run_with go q call.arguments call.text) (λ q. grows-with go q call.arguments call.text all) m
grows-ask go p (Make wanted) all m =
    grows-next (as_made (encode_utf8_all wanted.pattern)) (go_back go p (by_making (encode_utf8_all wanted.pattern)) (UsesPattern wanted.then)) m.answers
    (grows-back go p (by_making (encode_utf8_all wanted.pattern)) (UsesPattern wanted.then) all) m
grows-ask go p (Read name) all m =
    grows-next as_read (go_back go p (by_reading name) (ShowsFile name)) m.answers (grows-back go p (by_reading name) (ShowsFile name) all) m
grows-ask go p (Then later) all m = grows-task go p (GoesOn later) all m
grows-ask go p (Write saving) all m =
    grows-next as_put (go_back go p (by_writing saving) (NotesFile saving)) m.answers (grows-back go p (by_writing saving) (NotesFile saving) all) m
grows-ask go p Leave all m = grows-done p.who GrantsLeave m

grows-body : (go : Go) (p : Place) (row : Row) → GrowsAll go → Grows (row_body go p row)
grows-body go p (Asks ask) all m = grows-both (settle go p) (do_ask go p ask) (grows-settle go p all) (grows-ask go p ask all) m
grows-body go p (Fails text) all m = grows-both (settle go p) (done_as (Failed (fault_at (faults_of m.world) text))) (grows-settle go p all) (λ n. begins-same n.course) m
grows-body go p GivesUp all m = begins-same m.course

pub grows-within : (n : ℕ) → GrowsAll (do_within n)
unfolding do_within
grows-within zero p row m = begins-same m.course
grows-within (suc n) p row m = grows-body (do_within n) p row (grows-within n) m

-- all that comes behind a row
pub grows-do : GrowsAll Do
unfolding Do
grows-do p row m = grows-within (suc (depth_of row m.world)) p row m
