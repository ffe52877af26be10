-- What every task that begins in a step leaves as it was, is so after all that a row asks for.
use Rattle.std.proofs.Common.{◌≡◌, ℕ, zero, suc, Bool, true, false, nat_lt, List, [], ◌∷◌, refl}
use Rattle.std.specs.Prelude.{Some, None, Ok, Err, encode_utf8_all}
use Rattle.std.specs.declared.option.Option.{Option}
use Rattle.std.specs.declared.result.Result.{Result}
use Rattle.key_names.specs.declared.key.Key.{Key}
use Rattle.kak_words.specs.declared.parts.Command.{Command}
use Rattle.kak_world.specs.declared.ask.Ask.{Ask}
use Rattle.kak_world.specs.declared.ask.Ask.TheVariants.{Nothing, Commands, Play, Eval, Try, Call, Make, Read, Write, Then, Leave}
use Rattle.kak_world.specs.declared.ask.EditError.{EditError}
use Rattle.kak_world.specs.declared.playing.Macro.{Macro}
use Rattle.kak_world.specs.declared.playing.PlayKeys.{PlayKeys}
use Rattle.scope_tables.specs.declared.hooks.HookRef.{HookRef}
use Rattle.scope_tables.specs.declared.names.HookName.{HookName}
use Rattle.kak_world.specs.declared.events.HookEvent.{HookEvent}
use Rattle.kak_world.specs.declared.own.Mode.{Mode}
use Rattle.kak_world.specs.Flat.{Flat, mode_of, units_of, with_units}
use Rattle.kak_world.specs.Events.{due_of, hooks_heard, hook_text, parameter_of, faults_of}
use Rattle.kak_world.specs.Running.{arguments_of, keys_mapped}
use Rattle.kak_world.specs.Rows.{Row, Asks, Fails, GivesUp}
use Rattle.command_set.specs.Reading.{commands_told}
use Rattle.session_events.specs.declared.event.Answered.{Answered}
use Rattle.kak_engine.specs.declared.place.Place.{Place}
use Rattle.kak_engine.specs.declared.place.TheConstants.{MAX_DEPTH}
use Rattle.kak_engine.specs.Answering.{as_read, as_put}
use Rattle.kak_engine.specs.Asking.{Asked}
use Rattle.kak_engine.specs.Course.{Task, RunsKey, RunsCommand, RunsMacro, UsesPattern, GoesOn, ShowsFile, NotesFile, GrantsLeave, GoesNormal, TakesArguments, TakesDue, BeginsHook, TakesParameter, KeepsFault}
use Rattle.kak_engine.specs.Doing.{DoingEnd, Fine, Failed, GivenUp, Moment, Outcome, Part, Go, deeper, done_as, fault_at, in_world, next_after, and_then, each, catch_after, or_else, also_after, and_also, finally, unit_of, with_unit, if_room, nested, task_row, beginning, run_task, task_done, run_command, run_read, run_text, run_deeper, run_with, hook_ends, hook_over, run_held, run_hook, run_event, run_events, settle_due, settle, task_settled, hear, key_name, hooks_named, key_hooks, strike, strike_mapped, play_key, normal_behind, play_once, quiet_unless, play_nested, play_again, taken_as, next_as, asking, go_back, by_making, by_reading, by_writing, do_ask, row_body, depth_of, do_within, Do}

-- A relation of worlds before and after that holds of every unit that is taken, and of every task's row.
pub record IsCarried (R : Flat → Flat → Type 0) : Type 0 where
  pub same : (flat : Flat) → R flat flat
  pub behind : (a b c : Flat) → R a b → R b c → R a c
  pub unit : (left : ℕ) (flat : Flat) → units_of flat ≡ suc left → R flat (with_units left flat)
  pub task : (task : Task) (who : ℕ) (flat : Flat) → R flat (task_row task who flat).world

-- a part of a step over which a relation holds, wherever it begins
abbrev pub Keeps : (Flat → Flat → Type 0) → Part → Type 0
Keeps R part = (m : Moment) → R m.world (part m).moment.world

-- a way to do rows over which it holds
abbrev pub KeepsAll : (Flat → Flat → Type 0) → Go → Type 0
KeepsAll R go = (p : Place) (row : Row) → Keeps R (go p row)

module _ (R : Flat → Flat → Type 0) (c : IsCarried R) where
  keeps-behind : (e : DoingEnd) (next : Part) → Keeps R next → Keeps R (λ m. next_after e next m)
  keeps-behind Fine next k m = k m
  keeps-behind (Failed fault) next k m = c.same m.world
  keeps-behind (GivenUp text) next k m = c.same m.world

  pub keeps-then : (first next : Part) → Keeps R first → Keeps R next → Keeps R (λ m. and_then (first m) next)
  keeps-then first next f k m =
      let o : Outcome = first m in
      c.behind m.world o.moment.world (and_then o next).moment.world (f m) (keeps-behind o.end next k o.moment)

  keeps-catch : (e : DoingEnd) (other : Part) → Keeps R other → Keeps R (λ m. catch_after e other m)
  keeps-catch Fine other k m = c.same m.world
  keeps-catch (Failed fault) other k m = k m
  keeps-catch (GivenUp text) other k m = c.same m.world

  keeps-else : (first other : Part) → Keeps R first → Keeps R other → Keeps R (λ m. or_else (first m) other)
  keeps-else first other f k m =
      let o : Outcome = first m in
      c.behind m.world o.moment.world (or_else o other).moment.world (f m) (keeps-catch o.end other k o.moment)

  keeps-also : (e : DoingEnd) (next : Part) → Keeps R next → Keeps R (λ m. also_after e next m)
  keeps-also Fine next k m = k m
  keeps-also (Failed fault) next k m = k m
  keeps-also (GivenUp text) next k m = c.same m.world

  keeps-beside : (first next : Part) → Keeps R first → Keeps R next → Keeps R (λ m. and_also (first m) next)
  keeps-beside first next f k m =
      let o : Outcome = first m in
      c.behind m.world o.moment.world (and_also o next).moment.world (f m) (keeps-also o.end next k o.moment)

  pub keeps-each : {A : Type 0} (f : A → Part) → ((x : A) → Keeps R (f x)) → (xs : List A) → Keeps R (each f xs)
  keeps-each f k [] m = c.same m.world
  keeps-each f k (x ∷ xs) m = keeps-then (f x) (each f xs) (k x) (keeps-each f k xs) m

  keeps-units : (units : ℕ) (part : Part) → Keeps R part → (m : Moment) → units_of m.world ≡ units → R m.world (unit_of units part m).moment.world
  keeps-units zero part k m e = c.same m.world
  keeps-units (suc left) part k m e =
      c.behind m.world (with_units left m.world) (part (in_world (with_units left m.world) m)).moment.world (c.unit left m.world e) (k (in_world (with_units left m.world) m))

  pub keeps-unit : (part : Part) → Keeps R part → Keeps R (with_unit part)
  keeps-unit part k m = keeps-units (units_of m.world) part k m refl

  keeps-room : (room : Bool) (part : Part) → Keeps R part → Keeps R (λ m. if_room room part m)
  keeps-room true part k m = k m
  keeps-room false part k m = c.same m.world

  pub keeps-nested : (p : Place) (part : Place → Part) → ((q : Place) → Keeps R (part q)) → Keeps R (λ m. nested p part m)
  keeps-nested p part k m = keeps-room (nat_lt p.depth MAX_DEPTH) (part (deeper p)) (k (deeper p)) m

  -- a part between two tasks
  keeps-between : (who : ℕ) (task : Task) (last : Moment → Task) (part : Part) → Keeps R part → Keeps R (λ m. finally (task_done who (last m)) (part (task_done who task m)))
  keeps-between who task last part k m =
      let n : Moment = task_done who task m in
      let o : Outcome = part n in
      c.behind m.world n.world (task_row (last m) who o.moment.world).world (c.task task who m.world)
      (c.behind n.world o.moment.world (task_row (last m) who o.moment.world).world (k n) (c.task (last m) who o.moment.world))

  module _ (go : Go) (all : KeepsAll R go) where
    pub keeps-task : (p : Place) (task : Task) → Keeps R (run_task go p task)
    keeps-task p task m =
        let world : Flat = (task_row task p.who m.world).world in
        c.behind m.world world (run_task go p task m).moment.world (c.task task p.who m.world) (all p (task_row task p.who m.world).row (in_world world (beginning p.who task m)))

    pub keeps-command : (p : Place) (command : Command) → Keeps R (run_command go p command)
    keeps-command p command m = keeps-unit (run_task go p (RunsCommand command)) (keeps-task p (RunsCommand command)) m

    keeps-read : (p : Place) (read : Result (List Command) EditError) → Keeps R (run_read go p read)
    keeps-read p (Ok commands) m = keeps-each (run_command go p) (keeps-command p) commands m
    keeps-read p (Err error) m = c.same m.world

    pub keeps-text : (p : Place) (text : List ℕ) → Keeps R (run_text go p text)
    keeps-text p text m = keeps-read p (commands_told text) m

    pub keeps-deeper : (p : Place) (text : List ℕ) → Keeps R (run_deeper go p text)
    keeps-deeper p text m = keeps-nested p (λ q. run_text go q text) (λ q. keeps-text q text) m

    pub keeps-with : (p : Place) (words : List (List ℕ)) (text : List ℕ) → Keeps R (run_with go p words text)
    keeps-with p words text m =
        keeps-between p.who (TakesArguments (Some words)) (λ n. TakesArguments (arguments_of n.world)) (run_text go p text) (keeps-text p text) m

    -- a hook, the hooks of an event, and those of all events that are due
    keeps-ends : (who : ℕ) (e : DoingEnd) → Keeps R (hook_ends who e)
    keeps-ends who Fine m = c.same m.world
    keeps-ends who (Failed fault) m = c.task (KeepsFault fault) who m.world
    keeps-ends who (GivenUp text) m = c.same m.world

    keeps-held : (p : Place) (parameter : List ℕ) (at : HookRef) (text : Option (List ℕ)) → Keeps R (run_held go p parameter at text)
    keeps-held p parameter at None m = c.same m.world
    keeps-held p parameter at (Some text) m =
        let o : Outcome = finally (task_done p.who (TakesParameter (parameter_of m.world))) (run_deeper go p text (task_done p.who (BeginsHook at parameter) m)) in
        c.behind m.world o.moment.world (hook_over p.who o).moment.world
        (keeps-between p.who (BeginsHook at parameter) (λ n. TakesParameter (parameter_of n.world)) (run_deeper go p text) (keeps-deeper p text) m)
        (keeps-ends p.who o.end o.moment)

    pub keeps-hook : (p : Place) (parameter : List ℕ) (at : HookRef) → Keeps R (run_hook go p parameter at)
    keeps-hook p parameter at m = keeps-held p parameter at (hook_text at m.world) m

    pub keeps-event : (p : Place) (event : HookEvent) → Keeps R (run_event go p event)
    keeps-event p event m = keeps-each (run_hook go p event.parameter) (keeps-hook p event.parameter) (hooks_heard event p.who m.world) m

    keeps-events : (hooks : Bool) (p : Place) (events : List HookEvent) → Keeps R (run_events hooks go p events)
    keeps-events true p events m = keeps-each (run_event go p) (keeps-event p) events m
    keeps-events false p events m = c.same m.world

    keeps-due : (p : Place) (events : List HookEvent) → Keeps R (settle_due go p events)
    keeps-due p [] m = c.same m.world
    keeps-due p (event ∷ events) m =
        let n : Moment = task_done p.who TakesDue m in
        c.behind m.world n.world (run_events p.hooks go p (event ∷ events) n).moment.world (c.task TakesDue p.who m.world) (keeps-events p.hooks p (event ∷ events) n)

    pub keeps-settle : (p : Place) → Keeps R (settle go p)
    keeps-settle p m = keeps-due p (due_of m.world) m

    pub keeps-settled : (p : Place) (task : Task) → Keeps R (task_settled go p task)
    keeps-settled p task m =
        let n : Moment = task_done p.who task m in
        c.behind m.world n.world (settle go p n).moment.world (c.task task p.who m.world) (keeps-settle p n)

    -- a key, and the hooks of it
    keeps-hear : (hooks : Bool) (p : Place) (event : HookEvent) → Keeps R (hear hooks go p event)
    keeps-hear true p event m = keeps-event p event m
    keeps-hear false p event m = c.same m.world

    keeps-named : (p : Place) (name : Option HookName) (key : Key) → Keeps R (hooks_named go p name key)
    keeps-named p None key m = c.same m.world
    keeps-named p (Some name) key m = keeps-hear p.hooks p _ m

    pub keeps-hooks : (p : Place) (mode : Mode) (key : Key) → Keeps R (key_hooks go p mode key)
    keeps-hooks p mode key m = keeps-named p (key_name mode) key m

    pub keeps-strike : (p : Place) (key : Key) → Keeps R (strike go p key)
    keeps-strike p key m =
        keeps-beside (with_unit (run_task go p (RunsKey key))) (key_hooks go p (mode_of p.who m.world) key) (keeps-unit (run_task go p (RunsKey key)) (keeps-task p (RunsKey key))) (keeps-hooks p (mode_of p.who m.world) key) m

    keeps-mapped : (p : Place) (keys : Option (List Key)) (key : Key) → Keeps R (strike_mapped go p keys key)
    keeps-mapped p None key m = keeps-strike p key m
    keeps-mapped p (Some keys) key m = keeps-nested p (λ q. each (strike go q) keys) (λ q. keeps-each (strike go q) (keeps-strike q) keys) m

    pub keeps-key : (p : Place) (maps : Bool) (key : Key) → Keeps R (play_key go p maps key)
    keeps-key p false key m = keeps-strike p key m
    keeps-key p true key m = keeps-mapped p (keys_mapped p.who key m.world) key m

    keeps-normal : (p : Place) (e : DoingEnd) → Keeps R (normal_behind go p e)
    keeps-normal p Fine m = keeps-settled p GoesNormal m
    keeps-normal p (Failed fault) m = keeps-settled p GoesNormal m
    keeps-normal p (GivenUp text) m = c.task GoesNormal p.who m.world

    pub keeps-once : (p : Place) (play : PlayKeys) → Keeps R (play_once go p play)
    keeps-once p play m =
        let o : Outcome = and_then (task_settled go p GoesNormal m) (each (play_key go p play.maps) play.keys) in
        c.behind m.world o.moment.world (play_once go p play m).moment.world
        (keeps-then (task_settled go p GoesNormal) (each (play_key go p play.maps) play.keys) (keeps-settled p GoesNormal)
        (keeps-each (play_key go p play.maps) (keeps-key p play.maps) play.keys) m)
        (keeps-normal p o.end o.moment)

    pub keeps-played : (p : Place) (play : PlayKeys) → Keeps R (λ m. play_nested go p play m)
    keeps-played p play m = keeps-nested p (λ q. play_once go (quiet_unless play.hooks q) play) (λ q. keeps-once (quiet_unless play.hooks q) play) m

    pub keeps-again : (p : Place) (again : Option Macro) → Keeps R (play_again go p again)
    keeps-again p None m = c.same m.world
    keeps-again p (Some again) m = keeps-unit (run_task go p (RunsMacro again)) (keeps-task p (RunsMacro again)) m

    keeps-taken : {A : Type 0} (o : Option A) (part : A → Part) (later : List Answered) → ((x : A) → Keeps R (part x)) → Keeps R (taken_as o part later)
    keeps-taken (Some x) part later k m = k x (record m { answers = later })
    keeps-taken None part later k m = c.same m.world

    keeps-next : {A : Type 0} (kind : Answered → Option A) (part : A → Part) (answers : List Answered) → ((x : A) → Keeps R (part x)) → Keeps R (next_as kind part answers)
    keeps-next kind part [] k m = c.same m.world
    keeps-next kind part (answer ∷ later) k m = keeps-taken (kind answer) part later k m

    keeps-back : {A : Type 0} (p : Place) (what : A → Flat → Asked) (task : A → Task) (x : A) → Keeps R (go_back go p what task x)
    keeps-back p what task x m = keeps-task p (task x) (asking (what x m.world) m)

    keeps-ask : (p : Place) (ask : Ask) → Keeps R (do_ask go p ask)
    keeps-ask p Nothing m = c.same m.world
    keeps-ask p (Commands text) m = keeps-text p text m
    keeps-ask p (Play play) m = keeps-then (λ n. play_nested go p play n) (play_again go p play.again) (keeps-played p play) (keeps-again p play.again) m
    keeps-ask p (Eval text) m = keeps-deeper p text m
    keeps-ask p (Try texts) m = keeps-else (run_deeper go p texts.first) (run_deeper go p texts.catching) (keeps-deeper p texts.first) (keeps-deeper p texts.catching) m
    keeps-ask p (Call call) m = keeps-nested p (λ q. run_with go q call.arguments call.text) (λ q. keeps-with q call.arguments call.text) m
    keeps-ask p (Make wanted) m =
        keeps-next _ (go_back go p (by_making (encode_utf8_all wanted.pattern)) (UsesPattern wanted.then)) m.answers (keeps-back p (by_making (encode_utf8_all wanted.pattern)) (UsesPattern wanted.then)) m
    keeps-ask p (Read name) m = keeps-next as_read (go_back go p (by_reading name) (ShowsFile name)) m.answers (keeps-back p (by_reading name) (ShowsFile name)) m
    keeps-ask p (Then later) m = keeps-task p (GoesOn later) m
    keeps-ask p (Write saving) m = keeps-next as_put (go_back go p (by_writing saving) (NotesFile saving)) m.answers (keeps-back p (by_writing saving) (NotesFile saving)) m
    keeps-ask p Leave m = c.task GrantsLeave p.who m.world

    keeps-body : (p : Place) (row : Row) → Keeps R (row_body go p row)
    keeps-body p (Asks ask) m = keeps-then (settle go p) (do_ask go p ask) (keeps-settle p) (keeps-ask p ask) m
    keeps-body p (Fails text) m = keeps-then (settle go p) (done_as (Failed (fault_at (faults_of m.world) text))) (keeps-settle p) (λ n. c.same n.world) m
    keeps-body p GivesUp m = c.same m.world

  pub carried-within : (n : ℕ) → KeepsAll R (do_within n)
  unfolding do_within
  carried-within zero p row m = c.same m.world
  carried-within (suc n) p row m = keeps-body (do_within n) (carried-within n) p row m

  -- all that a row asks for
  pub carried-do : KeepsAll R Do
  unfolding Do
  carried-do p row m = carried-within (suc (depth_of row m.world)) p row m
