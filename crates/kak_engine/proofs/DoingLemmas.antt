-- What rows ask for is done as deep as it goes, and a bound above how deep they may nest makes no difference.
use Rattle.std.proofs.Common.{◌≡◌, ℕ, zero, suc, ◌+◌, ◌*◌, ◌<◌, ◌≤◌, Bool, true, false, nat_lt, List, [], ◌∷◌, refl, ap, ◌∙◌, arith}
use Rattle.std.specs.Prelude.{Some, None, Ok, Err, encode_utf8_all}
use Rattle.std.specs.declared.option.Option.{Option}
use Rattle.std.specs.declared.result.Result.{Result}
use Rattle.key_names.specs.declared.key.Key.{Key}
use Rattle.kak_words.specs.declared.parts.Command.{Command}
use Rattle.kak_world.specs.declared.ask.Ask.{Ask}
use Rattle.kak_world.specs.declared.ask.Ask.TheVariants.{Nothing, Commands, Play, Eval, Try, Call, Make, Read, Write, Then, Leave}
use Rattle.kak_world.specs.declared.ask.EditError.{EditError}
use Rattle.kak_world.specs.declared.playing.Macro.{Macro}
use Rattle.kak_world.specs.declared.playing.PlayKeys.{PlayKeys}
use Rattle.scope_tables.specs.declared.hooks.HookRef.{HookRef}
use Rattle.scope_tables.specs.declared.names.HookName.{HookName}
use Rattle.kak_world.specs.declared.events.HookEvent.{HookEvent}
use Rattle.kak_world.specs.declared.own.Mode.{Mode}
use Rattle.kak_world.specs.Events.{due_of, hooks_heard, hook_text, parameter_of, faults_of}
use Rattle.kak_world.specs.Flat.{Flat, mode_of, units_of, with_units}
use Rattle.kak_world.specs.Running.{arguments_of, keys_mapped}
use Rattle.kak_world.proofs.WorldLaws.{units_units}
use Rattle.kak_world.specs.Rows.{Row, Asks, Fails, GivesUp, RowEnd, stages_of}
use Rattle.command_set.specs.Reading.{commands_told}
use Rattle.command_set.proofs.FileLaws.{read_falls, saved_falls}
use Rattle.command_set.proofs.FinishLaws.{finish_falls}
use Rattle.command_set.proofs.LaterLaws.{later_falls}
use Rattle.session_events.specs.declared.event.Answered.{Answered}
use Rattle.kak_engine.specs.declared.place.Place.{Place}
use Rattle.kak_engine.specs.declared.place.TheConstants.{MAX_DEPTH}
use Rattle.kak_engine.specs.Answering.{as_read, as_put}
use Rattle.kak_engine.specs.Asking.{Asked}
use Rattle.kak_engine.specs.Course.{Task, RunsKey, RunsCommand, RunsMacro, UsesPattern, GoesOn, ShowsFile, NotesFile, GoesNormal, TakesArguments, TakesDue, BeginsHook, TakesParameter}
use Rattle.kak_engine.specs.Doing.{DoingEnd, Fine, Failed, GivenUp, Moment, Outcome, Part, Go, deeper, done_as, fault_at, in_world, next_after, and_then, each, catch_after, or_else, ended_still, also_after, and_also, finally, unit_of, with_unit, if_room, nested, task_row, beginning, run_task, task_done, run_command, run_read, run_text, run_deeper, run_with, hook_over, run_held, run_hook, run_event, run_events, settle_due, settle, task_settled, hear, key_name, hooks_named, key_hooks, strike, strike_mapped, play_key, normal_behind, normal_after, play_once, quiet_unless, play_nested, play_again, taken_as, next_as, asking, go_back, by_making, by_reading, by_writing, do_ask, row_body, depth_of, do_within, Do}
use Rattle.kak_engine.proofs.CarryingLaws.{Keeps, KeepsAll, keeps-then, keeps-each, keeps-unit, keeps-task, keeps-command, keeps-strike, keeps-deeper, keeps-hook, keeps-event, keeps-settle, keeps-settled, keeps-key, keeps-played, carried-within}
use Rattle.kak_engine.proofs.TaskLaws.{TakesUnits, units-carried, units-task}
use Rattle.kak_engine.proofs.StageLemmas.{few-stages}

-- two ways of doing rows that are one for rows that may nest less deep than a bound
abbrev AreOne : ℕ → Go → Go → Type 0
AreOne bound f g = (p : Place) (row : Row) (m : Moment) → depth_of row m.world < bound → f p row m ≡ g p row m

-- two parts that are one where no more than so many units are left
abbrev IsOne : ℕ → Part → Part → Type 0
IsOne units x y = (m : Moment) → units_of m.world ≤ units → x m ≡ y m

behind-one : (e : DoingEnd) (x y : Part) (m : Moment) → x m ≡ y m → next_after e x m ≡ next_after e y m
behind-one Fine x y m h = h
behind-one (Failed fault) x y m h = refl
behind-one (GivenUp text) x y m h = refl

also-one : (e : DoingEnd) (x y : Part) (m : Moment) → x m ≡ y m → also_after e x m ≡ also_after e y m
also-one Fine x y m h = ap (ended_still Fine) h
also-one (Failed fault) x y m h = ap (ended_still (Failed fault)) h
also-one (GivenUp text) x y m h = refl

caught-one : (e : DoingEnd) (x y : Part) (m : Moment) → x m ≡ y m → catch_after e x m ≡ catch_after e y m
caught-one Fine x y m h = refl
caught-one (Failed fault) x y m h = h
caught-one (GivenUp text) x y m h = refl

module _ (units : ℕ) where
  -- one part behind another, however the first one ended, or where it ended with an error
  then-one : (a b x y : Part) → Keeps TakesUnits a → IsOne units a b → IsOne units x y → IsOne units (λ m. and_then (a m) x) (λ m. and_then (b m) y)
  then-one a b x y falls h k m few =
      let o : Outcome = a m in
      behind-one o.end x y o.moment (k o.moment (omega (arith, few, falls m))) ∙ ap (λ (q : Outcome). and_then q y) (h m few)

  else-one : (a b x y : Part) → Keeps TakesUnits a → IsOne units a b → IsOne units x y → IsOne units (λ m. or_else (a m) x) (λ m. or_else (b m) y)
  else-one a b x y falls h k m few =
      let o : Outcome = a m in
      caught-one o.end x y o.moment (k o.moment (omega (arith, few, falls m))) ∙ ap (λ (q : Outcome). or_else q y) (h m few)

  each-one : {A : Type 0} (f g : A → Part) → ((x : A) → Keeps TakesUnits (f x)) → ((x : A) → IsOne units (f x) (g x)) → (xs : List A) → IsOne units (each f xs) (each g xs)
  each-one f g falls h [] m few = refl
  each-one f g falls h (x ∷ xs) m few = then-one (f x) (g x) (each f xs) (each g xs) (falls x) (h x) (each-one f g falls h xs) m few

  room-one : (room : Bool) (x y : Part) → IsOne units x y → IsOne units (if_room room x) (if_room room y)
  room-one true x y h m few = h m few
  room-one false x y h m few = refl

  nested-one : (p : Place) (x y : Place → Part) → ((q : Place) → IsOne units (x q) (y q)) → IsOne units (nested p x) (nested p y)
  nested-one p x y h m few = room-one (nat_lt p.depth MAX_DEPTH) (x (deeper p)) (y (deeper p)) (h (deeper p)) m few

  -- a part between two tasks
  between-one : (who : ℕ) (task : Task) (last : Moment → Task) (x y : Part) → IsOne units x y
      → IsOne units (λ m. finally (task_done who (last m)) (x (task_done who task m))) (λ m. finally (task_done who (last m)) (y (task_done who task m)))
  between-one who task last x y h m few =
      ap (λ (o : Outcome). finally (task_done who (last m)) o) (h (task_done who task m) (omega (arith, few, units-task task who m.world)))

  module _ (f g : Go) (falls : KeepsAll TakesUnits f) (one : AreOne (4 * units) f g) where
    -- a task behind a unit may nest less deep
    task-one : (p : Place) (task : Task) (some : ℕ) (m : Moment) → some ≤ units → unit_of some (run_task f p task) m ≡ unit_of some (run_task g p task) m
    task-one p task zero m few = refl
    task-one p task (suc left) m few =
        let end : RowEnd = task_row task p.who (with_units left m.world) in
        let fewer : units_of end.world ≤ units_of (with_units left m.world) = units-task task p.who (with_units left m.world) in
        one p end.row (in_world end.world (beginning p.who task (in_world (with_units left m.world) m))) (omega (arith, fewer, units_units left m.world, few, few-stages end.row))

    taking-one : (p : Place) (task : Task) → IsOne units (λ m. with_unit (run_task f p task) m) (λ m. with_unit (run_task g p task) m)
    taking-one p task m few = task-one p task (units_of m.world) m few

    read-one : (p : Place) (read : Result (List Command) EditError) → IsOne units (run_read f p read) (run_read g p read)
    read-one p (Ok commands) m few = each-one (run_command f p) (run_command g p) (keeps-command TakesUnits units-carried f falls p) (λ c. taking-one p (RunsCommand c)) commands m few
    read-one p (Err error) m few = refl

    text-one : (p : Place) (text : List ℕ) → IsOne units (run_text f p text) (run_text g p text)
    text-one p text m few = read-one p (commands_told text) m few

    deeper-one : (p : Place) (text : List ℕ) → IsOne units (run_deeper f p text) (run_deeper g p text)
    deeper-one p text m few = nested-one p (λ q. run_text f q text) (λ q. run_text g q text) (λ q. text-one q text) m few

    with-one : (p : Place) (words : List (List ℕ)) (text : List ℕ) → IsOne units (run_with f p words text) (run_with g p words text)
    with-one p words text m few = between-one p.who (TakesArguments (Some words)) (λ n. TakesArguments (arguments_of n.world)) (run_text f p text) (run_text g p text) (text-one p text) m few

    -- a hook, the hooks of an event, and those of all events that are due
    held-one : (p : Place) (parameter : List ℕ) (at : HookRef) (text : Option (List ℕ)) → IsOne units (run_held f p parameter at text) (run_held g p parameter at text)
    held-one p parameter at None m few = refl
    held-one p parameter at (Some text) m few =
        ap (hook_over p.who) (between-one p.who (BeginsHook at parameter) (λ n. TakesParameter (parameter_of n.world)) (run_deeper f p text) (run_deeper g p text) (deeper-one p text) m few)

    hook-one : (p : Place) (parameter : List ℕ) (at : HookRef) → IsOne units (run_hook f p parameter at) (run_hook g p parameter at)
    hook-one p parameter at m few = held-one p parameter at (hook_text at m.world) m few

    event-one : (p : Place) (event : HookEvent) → IsOne units (run_event f p event) (run_event g p event)
    event-one p event m few =
        each-one (run_hook f p event.parameter) (run_hook g p event.parameter) (keeps-hook TakesUnits units-carried f falls p event.parameter) (hook-one p event.parameter) (hooks_heard event p.who m.world) m few

    events-one : (hooks : Bool) (p : Place) (events : List HookEvent) → IsOne units (run_events hooks f p events) (run_events hooks g p events)
    events-one true p events m few = each-one (run_event f p) (run_event g p) (keeps-event TakesUnits units-carried f falls p) (event-one p) events m few
    events-one false p events m few = refl

    due-one : (p : Place) (events : List HookEvent) → IsOne units (settle_due f p events) (settle_due g p events)
    due-one p [] m few = refl
    due-one p (event ∷ events) m few = events-one p.hooks p (event ∷ events) (task_done p.who TakesDue m) (omega (arith, few, units-task TakesDue p.who m.world))

    settle-one : (p : Place) → IsOne units (settle f p) (settle g p)
    settle-one p m few = due-one p (due_of m.world) m few

    settled-one : (p : Place) (task : Task) → IsOne units (task_settled f p task) (task_settled g p task)
    settled-one p task m few = settle-one p (task_done p.who task m) (omega (arith, few, units-task task p.who m.world))

    -- a key, and the hooks of it
    hear-one : (hooks : Bool) (p : Place) (event : HookEvent) → IsOne units (hear hooks f p event) (hear hooks g p event)
    hear-one true p event m few = event-one p event m few
    hear-one false p event m few = refl

    named-one : (p : Place) (name : Option HookName) (key : Key) → IsOne units (hooks_named f p name key) (hooks_named g p name key)
    named-one p None key m few = refl
    named-one p (Some name) key m few = hear-one p.hooks p _ m few

    strike-one : (p : Place) (key : Key) → IsOne units (strike f p key) (strike g p key)
    strike-one p key m few =
        let mode : Mode = mode_of p.who m.world in
        let o : Outcome = with_unit (run_task f p (RunsKey key)) m in
        let fewer : units_of o.moment.world ≤ units_of m.world = keeps-unit TakesUnits units-carried (run_task f p (RunsKey key)) (keeps-task TakesUnits units-carried f falls p (RunsKey key)) m in
        also-one o.end (key_hooks f p mode key) (key_hooks g p mode key) o.moment (named-one p (key_name mode) key o.moment (omega (arith, few, fewer)))
        ∙ ap (λ (q : Outcome). and_also q (key_hooks g p mode key)) (taking-one p (RunsKey key) m few)

    mapped-one : (p : Place) (keys : Option (List Key)) (key : Key) → IsOne units (strike_mapped f p keys key) (strike_mapped g p keys key)
    mapped-one p None key m few = strike-one p key m few
    mapped-one p (Some keys) key m few =
        nested-one p (λ q. each (strike f q) keys) (λ q. each (strike g q) keys) (λ q. each-one (strike f q) (strike g q) (keeps-strike TakesUnits units-carried f falls q) (strike-one q) keys) m few

    key-one : (p : Place) (maps : Bool) (key : Key) → IsOne units (play_key f p maps key) (play_key g p maps key)
    key-one p false key m few = strike-one p key m few
    key-one p true key m few = mapped-one p (keys_mapped p.who key m.world) key m few

    normal-one : (p : Place) (e : DoingEnd) → IsOne units (normal_behind f p e) (normal_behind g p e)
    normal-one p Fine m few = ap (ended_still Fine) (settled-one p GoesNormal m few)
    normal-one p (Failed fault) m few = ap (ended_still (Failed fault)) (settled-one p GoesNormal m few)
    normal-one p (GivenUp text) m few = refl

    once-one : (p : Place) (play : PlayKeys) → IsOne units (play_once f p play) (play_once g p play)
    once-one p play m few =
        let keys : Part = each (play_key f p play.maps) play.keys in
        let same : Part = each (play_key g p play.maps) play.keys in
        let o : Outcome = and_then (task_settled f p GoesNormal m) keys in
        let fewer : units_of o.moment.world ≤ units_of m.world =
        keeps-then TakesUnits units-carried (task_settled f p GoesNormal) keys (keeps-settled TakesUnits units-carried f falls p GoesNormal)
        (keeps-each TakesUnits units-carried (play_key f p play.maps) (keeps-key TakesUnits units-carried f falls p play.maps) play.keys) m in
        normal-one p o.end o.moment (omega (arith, few, fewer))
        ∙ ap (normal_after g p)
        (then-one (task_settled f p GoesNormal) (task_settled g p GoesNormal) keys same (keeps-settled TakesUnits units-carried f falls p GoesNormal) (settled-one p GoesNormal)
        (each-one (play_key f p play.maps) (play_key g p play.maps) (keeps-key TakesUnits units-carried f falls p play.maps) (key-one p play.maps) play.keys) m few)

    played-one : (p : Place) (play : PlayKeys) → IsOne units (λ m. play_nested f p play m) (λ m. play_nested g p play m)
    played-one p play m few =
        nested-one p (λ q. play_once f (quiet_unless play.hooks q) play) (λ q. play_once g (quiet_unless play.hooks q) play) (λ q. once-one (quiet_unless play.hooks q) play) m few

    again-one : (p : Place) (again : Option Macro) → IsOne units (play_again f p again) (play_again g p again)
    again-one p None m few = refl
    again-one p (Some again) m few = taking-one p (RunsMacro again) m few

-- a row that goes on with an answer, which is a later stage
taken-one : {A : Type 0} (o : Option A) (x y : A → Part) (later : List Answered) (m : Moment) → ((a : A) → x a (record m { answers = later }) ≡ y a (record m { answers = later })) → taken_as o x later m ≡ taken_as o y later m
taken-one (Some a) x y later m h = h a
taken-one None x y later m h = refl

next-one : {A : Type 0} (f g : Go) (p : Place) (kind : Answered → Option A) (what : A → Flat → Asked) (task : A → Task) (answers : List Answered) (m : Moment) (bound : ℕ) → AreOne bound f g
    → ((a : A) → depth_of (task_row (task a) p.who m.world).row (task_row (task a) p.who m.world).world < bound)
    → next_as kind (go_back f p what task) answers m ≡ next_as kind (go_back g p what task) answers m
next-one f g p kind what task [] m bound one falls = refl
next-one f g p kind what task (answer ∷ later) m bound one falls =
    taken-one (kind answer) (go_back f p what task) (go_back g p what task) later m
    (λ a. one p (task_row (task a) p.who m.world).row (in_world (task_row (task a) p.who m.world).world (beginning p.who (task a) (asking (what a m.world) (record m { answers = later })))) (falls a))

-- fewer units than may be left, behind a row with that many stages
fewer-below : (n s u o k : ℕ) → 4 * n + s < 4 * u + k → u ≤ o → 4 * n + s < 4 * o + k
fewer-below n s u o k low few = omega (arith, low, few)

-- what a row asks for, where no more than so many units are left
module _ (units : ℕ) (f g : Go) (falls : KeepsAll TakesUnits f) (p : Place) where
  ask-one : (ask : Ask) → AreOne (4 * units + stages_of (Asks ask)) f g → IsOne units (do_ask f p ask) (do_ask g p ask)
  ask-one Nothing one m few = refl
  ask-one Leave one m few = refl
  ask-one (Commands text) one m few = text-one units f g falls (λ q row n low. one q row n (omega (arith, low))) p text m few
  ask-one (Eval text) one m few = deeper-one units f g falls (λ q row n low. one q row n (omega (arith, low))) p text m few
  ask-one (Try texts) one m few =
      else-one units (run_deeper f p texts.first) (run_deeper g p texts.first) (run_deeper f p texts.catching) (run_deeper g p texts.catching) (keeps-deeper TakesUnits units-carried f falls p texts.first)
      (deeper-one units f g falls (λ q row n low. one q row n (omega (arith, low))) p texts.first)
      (deeper-one units f g falls (λ q row n low. one q row n (omega (arith, low))) p texts.catching) m few
  ask-one (Call call) one m few =
      nested-one units p (λ q. run_with f q call.arguments call.text) (λ q. run_with g q call.arguments call.text)
      (λ q. with-one units f g falls (λ r row n low. one r row n (omega (arith, low))) q call.arguments call.text) m few
  ask-one (Play play) one m few =
      then-one units (λ n. play_nested f p play n) (λ n. play_nested g p play n) (play_again f p play.again) (play_again g p play.again) (keeps-played TakesUnits units-carried f falls p play)
      (played-one units f g falls (λ q row n low. one q row n (omega (arith, low))) p play)
      (again-one units f g falls (λ q row n low. one q row n (omega (arith, low))) p play.again) m few
  ask-one (Make wanted) one m few =
      next-one f g p _ (by_making (encode_utf8_all wanted.pattern)) (UsesPattern wanted.then) m.answers m _ one (λ made. fewer-below _ _ _ units 1 (finish_falls wanted.then made p.who m.world) few)
  ask-one (Read name) one m few = next-one f g p as_read (by_reading name) (ShowsFile name) m.answers m _ one (λ read. fewer-below _ _ _ units 1 (read_falls name read p.who m.world) few)
  ask-one (Write saving) one m few =
      next-one f g p as_put (by_writing saving) (NotesFile saving) m.answers m _ one (λ put. fewer-below _ _ _ units (stages_of (Asks (Write saving))) (saved_falls saving put p.who m.world) few)
  ask-one (Then later) one m few =
      let end : RowEnd = task_row (GoesOn later) p.who m.world in
      one p end.row (in_world end.world (beginning p.who (GoesOn later) m)) (fewer-below _ _ _ units (stages_of (Asks (Then later))) (later_falls later p.who m.world) few)

-- a row, behind which hooks are run first
body-one : (f g : Go) (p : Place) (row : Row) (m : Moment) → KeepsAll TakesUnits f → AreOne (depth_of row m.world) f g → row_body f p row m ≡ row_body g p row m
body-one f g p (Fails text) m falls one =
    let end : Part = done_as (Failed (fault_at (faults_of m.world) text)) in
    then-one (units_of m.world) (settle f p) (settle g p) end end (keeps-settle TakesUnits units-carried f falls p)
    (settle-one (units_of m.world) f g falls (λ q row n low. one q row n (omega (arith, low))) p) (λ n few. refl) m (omega arith)
body-one f g p GivesUp m falls one = refl
body-one f g p (Asks ask) m falls one =
    then-one (units_of m.world) (settle f p) (settle g p) (do_ask f p ask) (do_ask g p ask) (keeps-settle TakesUnits units-carried f falls p)
    (settle-one (units_of m.world) f g falls (λ q row n low. one q row n (omega (arith, low))) p) (ask-one (units_of m.world) f g falls p ask one) m (omega arith)

-- two bounds that are above how deep a row may nest
within-one : (a b : ℕ) (p : Place) (row : Row) (m : Moment) → depth_of row m.world < a → depth_of row m.world < b → do_within a p row m ≡ do_within b p row m
unfolding do_within
within-one zero b p row m low high = absurd (omega (arith, low))
within-one (suc a) zero p row m low high = absurd (omega (arith, high))
within-one (suc a) (suc b) p row m low high =
    body-one (do_within a) (do_within b) p row m (carried-within TakesUnits units-carried a) (λ q r n less. within-one a b q r n (omega (arith, less, low)) (omega (arith, less, high)))

-- doing a row is doing what it asks for
pub Do-body : (p : Place) (row : Row) (m : Moment) → Do p row m ≡ row_body Do p row m
unfolding Do do_within
Do-body p row m =
    body-one (do_within (depth_of row m.world)) Do p row m (carried-within TakesUnits units-carried (depth_of row m.world))
    (λ q r n less. within-one (depth_of row m.world) (suc (depth_of r n.world)) q r n less (omega arith))

-- a bound that is enough makes no difference
pub within-deep : (n : ℕ) (p : Place) (row : Row) (m : Moment) → depth_of row m.world < n → do_within n p row m ≡ Do p row m
unfolding Do
within-deep n p row m low = within-one n (suc (depth_of row m.world)) p row m low (omega arith)
