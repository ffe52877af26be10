-- The texts go through what happens, from one task to the next.
use Rattle.std.proofs.Common.{◌≡◌, ℕ, zero, suc, Bool, true, false, nat_lt, List, [], ◌∷◌, ◌++◌, refl, sym, ap, ◌∙◌, subst, append-nil}
use Rattle.std.specs.Prelude.{Some, None, Ok, Err, encode_utf8_all}
use Rattle.std.specs.declared.option.Option.{Option}
use Rattle.std.specs.declared.result.Result.{Result}
use Rattle.std.proofs.lemmas.List.{append_assoc}
use Rattle.key_names.specs.declared.key.Key.{Key}
use Rattle.kak_words.specs.declared.parts.Command.{Command}
use Rattle.kak_world.specs.declared.ask.Ask.{Ask}
use Rattle.kak_world.specs.declared.ask.Ask.TheVariants.{Nothing, Commands, Play, Eval, Try, Call, Make, Read, Write, Then, Leave}
use Rattle.kak_world.specs.declared.ask.EditError.{EditError}
use Rattle.kak_world.specs.declared.playing.Macro.{Macro}
use Rattle.kak_world.specs.declared.playing.PlayKeys.{PlayKeys}
use Rattle.scope_tables.specs.declared.hooks.HookRef.{HookRef}
use Rattle.scope_tables.specs.declared.names.HookName.{HookName}
use Rattle.kak_world.specs.declared.events.HookEvent.{HookEvent}
use Rattle.kak_world.specs.declared.own.Mode.{Mode}
use Rattle.kak_world.specs.Flat.{Flat, units_of, with_units, mode_of}
use Rattle.kak_world.specs.Events.{due_of, hooks_heard, hook_text, parameter_of, faults_of}
use Rattle.kak_world.specs.Running.{arguments_of, keys_mapped}
use Rattle.kak_world.specs.Rows.{Row, Asks, Fails, GivesUp}
use Rattle.command_set.specs.Reading.{commands_told}
use Rattle.session_events.specs.declared.event.Answered.{Answered}
use Rattle.kak_engine.specs.declared.place.Place.{Place}
use Rattle.kak_engine.specs.declared.place.TheConstants.{MAX_DEPTH}
use Rattle.kak_engine.specs.Answering.{as_read, as_put}
use Rattle.kak_engine.specs.Asking.{Asked}
use Rattle.kak_engine.specs.Course.{Task, RunsKey, RunsCommand, RunsMacro, UsesPattern, GoesOn, ShowsFile, NotesFile, GrantsLeave, GoesNormal, TakesArguments, TakesDue, BeginsHook, TakesParameter, KeepsFault, Happened, WasAsked, Began}
use Rattle.kak_engine.specs.Doing.{DoingEnd, Fine, Failed, GivenUp, Moment, Outcome, Part, Go, deeper, done_as, fault_at, in_world, next_after, and_then, each, catch_after, or_else, also_after, and_also, finally, unit_of, with_unit, if_room, nested, task_row, beginning, run_task, task_done, run_command, run_read, run_text, run_deeper, run_with, hook_ends, hook_over, run_held, run_hook, run_event, run_events, settle_due, settle, task_settled, hear, key_name, hooks_named, key_hooks, strike, strike_mapped, play_key, normal_behind, play_once, quiet_unless, play_nested, play_again, taken_as, next_as, asking, go_back, by_making, by_reading, by_writing, do_ask, row_body, depth_of, do_within, Do}
use Rattle.step_texts.specs.Texts.{texts_of, HasSameTexts}
use Rattle.step_texts.specs.Courses.{GoThrough}
use Rattle.step_texts.proofs.TextLemmas.{texts-rest}

abbrev pub Texts : Type 0
Texts = List (Option (List ℕ))

-- one course behind another
through-then : (a b c : Texts) (first later : List Happened) → GoThrough a first b → GoThrough b later c → GoThrough a (first ++ later) c
through-then a b c [] later f g = subst (λ (x : Texts). GoThrough x later c) f g
through-then a b c (WasAsked what ∷ first) later f g = through-then a b c first later f g
through-then a b c (Began who task flat ∷ first) later f g = (f.0, through-then (texts_of (task_row task who flat).world) b c first later f.1 g)

-- the texts go through what happens between two moments
pub record Goes (old new : Moment) : Type 0 where
  pub course : List Happened
  pub grows : new.course ≡ old.course ++ course
  pub through : GoThrough (texts_of old.world) course (texts_of new.world)

stays : (m : Moment) → Goes m m
stays m = record { course = []; grows = sym (append-nil m.course); through = refl }

-- nothing happens, and the texts stay
quiet : (old new : Moment) → new.course ≡ old.course → HasSameTexts old.world new.world → Goes old new
quiet old new e same = record { course = []; grows = e ∙ sym (append-nil old.course); through = same }

after : (a b c : Moment) → Goes a b → Goes b c → Goes a c
after a b c f g = record {
  course = f.course ++ g.course;
  grows = g.grows ∙ (ap (λ (q : List Happened). q ++ g.course) f.grows ∙ append_assoc a.course f.course g.course);
  through = through-then (texts_of a.world) (texts_of b.world) (texts_of c.world) f.course g.course f.through g.through;
}

-- a part of a step, wherever it begins
abbrev pub GoesOnward : Part → Type 0
GoesOnward part = (m : Moment) → Goes m (part m).moment

-- a way to do rows
abbrev pub GoesAll : Go → Type 0
GoesAll go = (p : Place) (row : Row) → GoesOnward (go p row)

goes-behind : (e : DoingEnd) (next : Part) → GoesOnward next → GoesOnward (λ m. next_after e next m)
goes-behind Fine next k m = k m
goes-behind (Failed fault) next k m = stays m
goes-behind (GivenUp text) next k m = stays m

goes-then : (first next : Part) → GoesOnward first → GoesOnward next → GoesOnward (λ m. and_then (first m) next)
goes-then first next f k m =
    let o : Outcome = first m in
    after m o.moment (and_then o next).moment (f m) (goes-behind o.end next k o.moment)

goes-catch : (e : DoingEnd) (other : Part) → GoesOnward other → GoesOnward (λ m. catch_after e other m)
goes-catch Fine other k m = stays m
goes-catch (Failed fault) other k m = k m
goes-catch (GivenUp text) other k m = stays m

goes-else : (first other : Part) → GoesOnward first → GoesOnward other → GoesOnward (λ m. or_else (first m) other)
goes-else first other f k m =
    let o : Outcome = first m in
    after m o.moment (or_else o other).moment (f m) (goes-catch o.end other k o.moment)

goes-also : (e : DoingEnd) (next : Part) → GoesOnward next → GoesOnward (λ m. also_after e next m)
goes-also Fine next k m = k m
goes-also (Failed fault) next k m = k m
goes-also (GivenUp text) next k m = stays m

goes-beside : (first next : Part) → GoesOnward first → GoesOnward next → GoesOnward (λ m. and_also (first m) next)
goes-beside first next f k m =
    let o : Outcome = first m in
    after m o.moment (and_also o next).moment (f m) (goes-also o.end next k o.moment)

goes-each : {A : Type 0} (f : A → Part) → ((x : A) → GoesOnward (f x)) → (xs : List A) → GoesOnward (each f xs)
goes-each f k [] m = stays m
goes-each f k (x ∷ xs) m = goes-then (f x) (each f xs) (k x) (goes-each f k xs) m

goes-units : (units : ℕ) (part : Part) → GoesOnward part → GoesOnward (λ m. unit_of units part m)
goes-units zero part k m = stays m
goes-units (suc left) part k m =
    let taken : Moment = in_world (with_units left m.world) m in
    after m taken (part taken).moment (quiet m taken refl (texts-rest _ m.world)) (k taken)

goes-unit : (part : Part) → GoesOnward part → GoesOnward (with_unit part)
goes-unit part k m = goes-units (units_of m.world) part k m

goes-room : (room : Bool) (part : Part) → GoesOnward part → GoesOnward (λ m. if_room room part m)
goes-room true part k m = k m
goes-room false part k m = stays m

goes-nested : (p : Place) (part : Place → Part) → ((q : Place) → GoesOnward (part q)) → GoesOnward (λ m. nested p part m)
goes-nested p part k m = goes-room (nat_lt p.depth MAX_DEPTH) (part (deeper p)) (k (deeper p)) m

-- a task's row
goes-row : (who : ℕ) (task : Task) (m : Moment) → Goes m (in_world (task_row task who m.world).world (beginning who task m))
goes-row who task m = record { course = Began who task m.world ∷ []; grows = refl; through = (refl, refl) }

goes-done : (who : ℕ) (task : Task) (m : Moment) → Goes m (task_done who task m)
goes-done who task m = goes-row who task m

-- a part between two tasks
goes-between : (who : ℕ) (task : Task) (last : Moment → Task) (part : Part) → GoesOnward part → GoesOnward (λ m. finally (task_done who (last m)) (part (task_done who task m)))
goes-between who task last part k m =
    let n : Moment = task_done who task m in
    let o : Outcome = part n in
    after m n (task_done who (last m) o.moment) (goes-done who task m)
    (after n o.moment (task_done who (last m) o.moment) (k n) (goes-done who (last m) o.moment))

module _ (go : Go) (all : GoesAll go) where
  goes-task : (p : Place) (task : Task) → GoesOnward (run_task go p task)
  goes-task p task m =
      let n : Moment = in_world (task_row task p.who m.world).world (beginning p.who task m) in
      after m n (run_task go p task m).moment (goes-row p.who task m) (all p (task_row task p.who m.world).row n)

  goes-command : (p : Place) (command : Command) → GoesOnward (run_command go p command)
  goes-command p command m = goes-unit (run_task go p (RunsCommand command)) (goes-task p (RunsCommand command)) m

  goes-read : (p : Place) (read : Result (List Command) EditError) → GoesOnward (run_read go p read)
  goes-read p (Ok commands) m = goes-each (run_command go p) (goes-command p) commands m
  goes-read p (Err error) m = stays m

  goes-text : (p : Place) (text : List ℕ) → GoesOnward (run_text go p text)
  goes-text p text m = goes-read p (commands_told text) m

  goes-deeper : (p : Place) (text : List ℕ) → GoesOnward (run_deeper go p text)
  goes-deeper p text m = goes-nested p (λ q. run_text go q text) (λ q. goes-text q text) m

  goes-with : (p : Place) (words : List (List ℕ)) (text : List ℕ) → GoesOnward (run_with go p words text)
  goes-with p words text m =
      goes-between p.who (TakesArguments (Some words)) (λ n. TakesArguments (arguments_of n.world)) (run_text go p text) (goes-text p text) m

  -- a hook, the hooks of an event, and those of all events that are due
  goes-ends : (who : ℕ) (e : DoingEnd) → GoesOnward (hook_ends who e)
  goes-ends who Fine m = stays m
  goes-ends who (Failed fault) m = goes-done who (KeepsFault fault) m
  goes-ends who (GivenUp text) m = stays m

  goes-held : (p : Place) (parameter : List ℕ) (at : HookRef) (text : Option (List ℕ)) → GoesOnward (run_held go p parameter at text)
  goes-held p parameter at None m = stays m
  goes-held p parameter at (Some text) m =
      let o : Outcome = finally (task_done p.who (TakesParameter (parameter_of m.world))) (run_deeper go p text (task_done p.who (BeginsHook at parameter) m)) in
      after m o.moment (hook_over p.who o).moment
      (goes-between p.who (BeginsHook at parameter) (λ n. TakesParameter (parameter_of n.world)) (run_deeper go p text) (goes-deeper p text) m)
      (goes-ends p.who o.end o.moment)

  goes-hook : (p : Place) (parameter : List ℕ) (at : HookRef) → GoesOnward (run_hook go p parameter at)
  goes-hook p parameter at m = goes-held p parameter at (hook_text at m.world) m

  goes-event : (p : Place) (event : HookEvent) → GoesOnward (run_event go p event)
  goes-event p event m = goes-each (run_hook go p event.parameter) (goes-hook p event.parameter) (hooks_heard event p.who m.world) m

  goes-events : (hooks : Bool) (p : Place) (events : List HookEvent) → GoesOnward (run_events hooks go p events)
  goes-events true p events m = goes-each (run_event go p) (goes-event p) events m
  goes-events false p events m = stays m

  goes-due : (p : Place) (events : List HookEvent) → GoesOnward (settle_due go p events)
  goes-due p [] m = stays m
  goes-due p (event ∷ events) m =
      let n : Moment = task_done p.who TakesDue m in
      after m n (run_events p.hooks go p (event ∷ events) n).moment (goes-done p.who TakesDue m) (goes-events p.hooks p (event ∷ events) n)

  goes-settle : (p : Place) → GoesOnward (settle go p)
  goes-settle p m = goes-due p (due_of m.world) m

  pub goes-settled : (p : Place) (task : Task) → GoesOnward (task_settled go p task)
  goes-settled p task m =
      let n : Moment = task_done p.who task m in
      after m n (settle go p n).moment (goes-done p.who task m) (goes-settle p n)

  -- a key, and the hooks of it
  goes-hear : (hooks : Bool) (p : Place) (event : HookEvent) → GoesOnward (hear hooks go p event)
  goes-hear true p event m = goes-event p event m
  goes-hear false p event m = stays m

  goes-named : (p : Place) (name : Option HookName) (key : Key) → GoesOnward (hooks_named go p name key)
  goes-named p None key m = stays m
  goes-named p (Some name) key m = goes-hear p.hooks p _ m

  goes-hooks : (p : Place) (mode : Mode) (key : Key) → GoesOnward (key_hooks go p mode key)
  goes-hooks p mode key m = goes-named p (key_name mode) key m

  goes-strike : (p : Place) (key : Key) → GoesOnward (strike go p key)
  goes-strike p key m =
      goes-beside (with_unit (run_task go p (RunsKey key))) (key_hooks go p (mode_of p.who m.world) key) (goes-unit (run_task go p (RunsKey key)) (goes-task p (RunsKey key))) (goes-hooks p (mode_of p.who m.world) key) m

  goes-mapped : (p : Place) (keys : Option (List Key)) (key : Key) → GoesOnward (strike_mapped go p keys key)
  goes-mapped p None key m = goes-strike p key m
  goes-mapped p (Some keys) key m = goes-nested p (λ q. each (strike go q) keys) (λ q. goes-each (strike go q) (goes-strike q) keys) m

  pub goes-key : (p : Place) (maps : Bool) (key : Key) → GoesOnward (play_key go p maps key)
  goes-key p false key m = goes-strike p key m
  goes-key p true key m = goes-mapped p (keys_mapped p.who key m.world) key m

  goes-normal : (p : Place) (e : DoingEnd) → GoesOnward (normal_behind go p e)
  goes-normal p Fine m = goes-settled p GoesNormal m
  goes-normal p (Failed fault) m = goes-settled p GoesNormal m
  goes-normal p (GivenUp text) m = goes-done p.who GoesNormal m

  goes-once : (p : Place) (play : PlayKeys) → GoesOnward (play_once go p play)
  goes-once p play m =
      let o : Outcome = and_then (task_settled go p GoesNormal m) (each (play_key go p play.maps) play.keys) in
      after m o.moment (play_once go p play m).moment
      (goes-then (task_settled go p GoesNormal) (each (play_key go p play.maps) play.keys) (goes-settled p GoesNormal)
      (goes-each (play_key go p play.maps) (goes-key p play.maps) play.keys) m)
      (goes-normal p o.end o.moment)

  goes-played : (p : Place) (play : PlayKeys) → GoesOnward (λ m. play_nested go p play m)
  goes-played p play m = goes-nested p (λ q. play_once go (quiet_unless play.hooks q) play) (λ q. goes-once (quiet_unless play.hooks q) play) m

  goes-again : (p : Place) (again : Option Macro) → GoesOnward (play_again go p again)
  goes-again p None m = stays m
  goes-again p (Some again) m = goes-unit (run_task go p (RunsMacro again)) (goes-task p (RunsMacro again)) m

  -- an answer that is taken, or doesn't fit
  goes-taken : {A : Type 0} (o : Option A) (part : A → Part) (later : List Answered) → ((x : A) → GoesOnward (part x)) → GoesOnward (taken_as o part later)
  goes-taken (Some x) part later k m =
      let n : Moment = record m { answers = later } in
      after m n (part x n).moment (quiet m n refl refl) (k x n)
  goes-taken None part later k m = quiet m (record m { fit = false }) refl refl

  goes-next : {A : Type 0} (kind : Answered → Option A) (part : A → Part) (answers : List Answered) → ((x : A) → GoesOnward (part x)) → GoesOnward (next_as kind part answers)
  goes-next kind part [] k m = quiet m (record m { fit = false }) refl refl
  goes-next kind part (answer ∷ later) k m = goes-taken (kind answer) part later k m

  goes-back : {A : Type 0} (p : Place) (what : A → Flat → Asked) (task : A → Task) (x : A) → GoesOnward (go_back go p what task x)
  goes-back p what task x m =
      let n : Moment = asking (what x m.world) m in
      after m n (go_back go p what task x m).moment (record { course = WasAsked (what x m.world) ∷ []; grows = refl; through = refl }) (goes-task p (task x) n)

  goes-ask : (p : Place) (ask : Ask) → GoesOnward (do_ask go p ask)
  goes-ask p Nothing m = stays m
  goes-ask p (Commands text) m = goes-text p text m
  goes-ask p (Play play) m = goes-then (λ n. play_nested go p play n) (play_again go p play.again) (goes-played p play) (goes-again p play.again) m
  goes-ask p (Eval text) m = goes-deeper p text m
  goes-ask p (Try texts) m = goes-else (run_deeper go p texts.first) (run_deeper go p texts.catching) (goes-deeper p texts.first) (goes-deeper p texts.catching) m
  goes-ask p (Call call) m = goes-nested p (λ q. run_with go q call.arguments call.text) (λ q. goes-with q call.arguments call.text) m
  goes-ask p (Make wanted) m =
      goes-next _ (go_back go p (by_making (encode_utf8_all wanted.pattern)) (UsesPattern wanted.then)) m.answers (goes-back p (by_making (encode_utf8_all wanted.pattern)) (UsesPattern wanted.then)) m
  goes-ask p (Read name) m = goes-next as_read (go_back go p (by_reading name) (ShowsFile name)) m.answers (goes-back p (by_reading name) (ShowsFile name)) m
  goes-ask p (Then later) m = goes-task p (GoesOn later) m
  goes-ask p (Write saving) m = goes-next as_put (go_back go p (by_writing saving) (NotesFile saving)) m.answers (goes-back p (by_writing saving) (NotesFile saving)) m
  goes-ask p Leave m = goes-done p.who GrantsLeave m

  goes-body : (p : Place) (row : Row) → GoesOnward (row_body go p row)
  goes-body p (Asks ask) m = goes-then (settle go p) (do_ask go p ask) (goes-settle p) (goes-ask p ask) m
  goes-body p (Fails text) m = goes-then (settle go p) (done_as (Failed (fault_at (faults_of m.world) text))) (goes-settle p) (λ n. stays n) m
  goes-body p GivesUp m = stays m

goes-within : (n : ℕ) → GoesAll (do_within n)
unfolding do_within
goes-within zero p row m = stays m
goes-within (suc n) p row m = goes-body (do_within n) (goes-within n) p row m

-- all that a row asks for
pub goes-do : GoesAll Do
unfolding Do
goes-do p row m = goes-within (suc (depth_of row m.world)) p row m
