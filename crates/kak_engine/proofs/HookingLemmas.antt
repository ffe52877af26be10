-- How hooks are run.
use Rattle.std.proofs.Common.{◌≡◌, ℕ, Bool, true, false, List, [], ◌∷◌, length, refl, sym, ap, ◌∙◌, subst, Ok, Err, Some, None}
use Rattle.std.specs.Prelude.{alloc_error}
use Rattle.std.specs.declared.option.Option.{Option}
use Rattle.std.specs.declared.result.Result.{Result}
use Rattle.std.specs.declared.alloc.AllocError.{AllocError}
use Rattle.key_names.specs.declared.key.Key.{Key}
use Rattle.scope_tables.specs.declared.hooks.HookRef.{HookRef}
use Rattle.scope_tables.specs.declared.names.HookName.{HookName}
use Rattle.scope_tables.specs.Hooks.{is_awaited}
use Rattle.scope_tables.proofs.HookLemmas.{unawaited}
use Rattle.kak_world.specs.declared.events.HookEvent.{HookEvent}
use Rattle.kak_world.specs.declared.own.Mode.{Mode}
use Rattle.kak_world.specs.Flat.{Flat, tables_of}
use Rattle.kak_world.specs.Events.{due_of, with_due, hooks_heard, hook_text, parameter_of, with_parameter, hook_begun}
use Rattle.session_events.specs.declared.event.Answered.{Answered}
use Rattle.kak_engine.specs.declared.ending.Ending.{Ending}
use Rattle.kak_engine.specs.declared.place.Place.{Place}
use Rattle.kak_engine.specs.Course.{Happened, BeginsHook, TakesDue, TakesParameter, KeepsFault}
use Rattle.kak_engine.specs.Doing.{DoingEnd, Fine, Failed, GivenUp, Moment, Outcome, finally, each, task_done, run_deeper, hook_end, hook_flat, hook_ends, hook_over, run_held, run_hook, run_event, run_events, settle_due, settle, key_event, hear, key_name, hooks_named, key_hooks, Do}
use Rattle.kak_engine.specs.Honesty.{Outside}
use Rattle.kak_engine.specs.Seen.{Does, IsCutShort, PartEnds, end_seen, moment_of, UnderWay, under_way}
use Rattle.kak_engine.proofs.AskingLaws.{grows-ends}
use Rattle.kak_engine.proofs.EndLemmas.{ends-at, does-alone, does-task, task-then}
use Rattle.kak_engine.proofs.LoopLemmas.{behind-does, first-cut}
use Rattle.kak_engine.proofs.NestingLemmas.{between-ends, between-stops}

-- how a hook ended, which its client is told where it failed
ends-does : (who : ℕ) (e end : DoingEnd) (flat now : Flat) (had : List Answered) (o : Outside) → now ≡ hook_flat who e flat → end ≡ hook_end e → Does (λ m. hook_ends who e m) (under_way flat had o) (under_way now had o) end
ends-does who Fine end flat now had o w is =
    subst (λ (q : DoingEnd). Does (λ m. hook_ends who Fine m) (under_way flat had o) (under_way now had o) q) (sym is)
    (does-alone (λ m. hook_ends who Fine m) flat now had o Fine w (λ course answers. ap (λ (x : Flat). let q : Outcome = record { moment = moment_of course answers x; end = Fine } in q) (sym w)))
ends-does who (Failed fault) end flat now had o w is =
    subst (λ (q : DoingEnd). Does (λ m. hook_ends who (Failed fault) m) (under_way flat had o) (under_way now had o) q) (sym is) (does-task who (KeepsFault fault) Fine flat now had o w)
ends-does who (GivenUp text) end flat now had o w is =
    subst (λ (q : DoingEnd). Does (λ m. hook_ends who (GivenUp text) m) (under_way flat had o) (under_way now had o) q) (sym is)
    (does-alone (λ m. hook_ends who (GivenUp text) m) flat now had o (GivenUp text) w (λ course answers. ap (λ (x : Flat). let q : Outcome = record { moment = moment_of course answers x; end = GivenUp text } in q) (sym w)))

module _ (p : Place) (parameter : List ℕ) (at : HookRef) (old : Flat) (had : List Answered) (o : Outside) where
  hook-is : (text : Option (List ℕ)) → hook_text at old ≡ text → (r : Result Ending AllocError) (new : UnderWay) → PartEnds r (λ m. run_held Do p parameter at text m) (under_way old had o) new → PartEnds r (λ m. run_hook Do p parameter at m) (under_way old had o) new
  hook-is text is r new d =
      ends-at r (λ m. run_hook Do p parameter at m) (λ m. run_held Do p parameter at text m) (under_way old had o) new
      (λ course answers. ap (λ (t : Option (List ℕ)). run_held Do p parameter at t (moment_of course answers old)) is) d

  -- a hook that isn't held any more
  pub hook-gone : (e : Ending) → end_seen e ≡ Fine → hook_text at old ≡ None → Does (λ m. run_hook Do p parameter at m) (under_way old had o) (under_way old had o) (end_seen e)
  hook-gone e fine none =
      hook-is None none (Ok e) (under_way old had o)
      (subst (λ (q : DoingEnd). Does (λ m. run_held Do p parameter at None m) (under_way old had o) (under_way old had o) q) (sym fine)
      (does-alone (λ m. run_held Do p parameter at None m) old old had o Fine refl (λ course answers. refl)))

  module _ (text : List ℕ) (some : hook_text at old ≡ Some text) (begun : Flat) (b : begun ≡ hook_begun at parameter old) where
    -- one that is held
    pub hook-held : (ending result : Ending) (given now : Flat) (inner : UnderWay) → given ≡ with_parameter (parameter_of old) inner.world → now ≡ hook_flat p.who (end_seen ending) given → end_seen result ≡ hook_end (end_seen ending)
        → Does (λ m. run_deeper Do p text m) (under_way begun had o) inner (end_seen ending) → Does (λ m. run_hook Do p parameter at m) (under_way old had o) (under_way now inner.had inner.outside) (end_seen result)
    hook-held ending result given now inner g w is d =
        hook-is (Some text) some (Ok result) (under_way now inner.had inner.outside)
        (behind-does (hook_over p.who) (λ m. finally (task_done p.who (TakesParameter (parameter_of m.world))) (run_deeper Do p text (task_done p.who (BeginsHook at parameter) m))) (λ m. hook_ends p.who (end_seen ending) m)
        (under_way old had o) (under_way given inner.had inner.outside) (under_way now inner.had inner.outside) (end_seen ending) (end_seen result) (λ m. refl)
        (between-ends p.who (BeginsHook at parameter) (λ f. TakesParameter (parameter_of f)) (run_deeper Do p text) ending old begun given had o inner b g d)
        (ends-does p.who (end_seen ending) (end_seen result) given now inner.had inner.outside w is))

    pub hook-cut : (new : UnderWay) → IsCutShort (λ m. run_deeper Do p text m) (under_way begun had o) new → IsCutShort (λ m. run_hook Do p parameter at m) (under_way old had o) new
    hook-cut new d =
        hook-is (Some text) some (Err alloc_error) new
        (first-cut (hook_over p.who) (λ m. finally (task_done p.who (TakesParameter (parameter_of m.world))) (run_deeper Do p text (task_done p.who (BeginsHook at parameter) m))) (under_way old had o) new
        (λ q. grows-ends p.who q.end q.moment)
        (between-stops p.who (BeginsHook at parameter) (λ f. TakesParameter (parameter_of f)) (run_deeper Do p text) old begun had o new b d))

-- the hooks of an event, as they were found
pub event-ends : (p : Place) (event : HookEvent) (found : List HookRef) (r : Result Ending AllocError) (old new : UnderWay) → found ≡ hooks_heard event p.who old.world → PartEnds r (λ m. each (run_hook Do p event.parameter) found m) old new
    → PartEnds r (λ m. run_event Do p event m) old new
event-ends p event found r old new is d =
    ends-at r (λ m. run_event Do p event m) (λ m. each (run_hook Do p event.parameter) found m) old new
    (λ course answers. ap (λ (hooks : List HookRef). each (run_hook Do p event.parameter) hooks (moment_of course answers old.world)) (sym is)) d

-- no event is due, or some are
settles-some : (p : Place) (events : List HookEvent) (m : Moment) → (length events ≡ 0 → ⊥) → settle_due Do p events m ≡ run_events p.hooks Do p events (task_done p.who TakesDue m)
settles-some p [] m n = absurd (n refl)
settles-some p (event ∷ events) m n = refl

none-left : (events : List HookEvent) → length events ≡ 0 → events ≡ []
none-left [] e = refl
none-left (event ∷ events) e = cc

module _ (p : Place) (old : Flat) (had : List Answered) (o : Outside) where
  pub settles-none : (e : Ending) → end_seen e ≡ Fine → length (due_of old) ≡ 0 → Does (λ m. settle Do p m) (under_way old had o) (under_way old had o) (end_seen e)
  settles-none e fine none =
      subst (λ (q : DoingEnd). Does (λ m. settle Do p m) (under_way old had o) (under_way old had o) q) (sym fine)
      (does-alone (λ m. settle Do p m) old old had o Fine refl (λ course answers. ap (λ (events : List HookEvent). settle_due Do p events (moment_of course answers old)) (none-left (due_of old) none)))

  module _ (due : List HookEvent) (same : due ≡ due_of old) (some : length (due_of old) ≡ 0 → ⊥) (taken : Flat) (t : taken ≡ with_due [] old) where
    settles-by : (r : Result Ending AllocError) (new : UnderWay) → PartEnds r (λ m. run_events p.hooks Do p due m) (under_way taken had o) new → PartEnds r (λ m. settle Do p m) (under_way old had o) new
    settles-by r new d =
        ends-at r (λ m. settle Do p m) (λ m. run_events p.hooks Do p due (task_done p.who TakesDue m)) (under_way old had o) new
        (λ course answers.
        settles-some p (due_of old) (moment_of course answers old) some
        ∙ ap (λ (events : List HookEvent). run_events p.hooks Do p events (task_done p.who TakesDue (moment_of course answers old))) (sym same))
        (task-then p.who TakesDue (λ m. run_events p.hooks Do p due m) r old taken had o new t d)

    -- where hooks aren't run, and where they are
    pub settles-quiet : (e : Ending) → end_seen e ≡ Fine → p.hooks ≡ false → Does (λ m. settle Do p m) (under_way old had o) (under_way taken had o) (end_seen e)
    settles-quiet e fine off =
        settles-by (Ok e) (under_way taken had o)
        (subst (λ (q : DoingEnd). Does (λ m. run_events p.hooks Do p due m) (under_way taken had o) (under_way taken had o) q) (sym fine)
        (does-alone (λ m. run_events p.hooks Do p due m) taken taken had o Fine refl (λ course answers. ap (λ (b : Bool). run_events b Do p due (moment_of course answers taken)) off)))

    pub settles-all : (r : Result Ending AllocError) (new : UnderWay) → p.hooks ≡ true → PartEnds r (λ m. each (run_event Do p) due m) (under_way taken had o) new → PartEnds r (λ m. settle Do p m) (under_way old had o) new
    settles-all r new on d =
        settles-by r new
        (ends-at r (λ m. run_events p.hooks Do p due m) (λ m. each (run_event Do p) due m) (under_way taken had o) new (λ course answers. ap (λ (b : Bool). run_events b Do p due (moment_of course answers taken)) on) d)

-- a key that no hook hears, and one that some may hear
module _ (p : Place) (mode : Mode) (key : Key) (old : Flat) (had : List Answered) (o : Outside) where
  keys-by : (name : Option HookName) → key_name mode ≡ name → (r : Result Ending AllocError) (new : UnderWay) → PartEnds r (λ m. hooks_named Do p name key m) (under_way old had o) new → PartEnds r (λ m. key_hooks Do p mode key m) (under_way old had o) new
  keys-by name is r new d =
      ends-at r (λ m. key_hooks Do p mode key m) (λ m. hooks_named Do p name key m) (under_way old had o) new (λ course answers. ap (λ (n : Option HookName). hooks_named Do p n key (moment_of course answers old)) is) d

  unheard-key : (name : Option HookName) → key_name mode ≡ name → (e : Ending) → end_seen e ≡ Fine
      → ((course : List Happened) (answers : List Answered) → hooks_named Do p name key (moment_of course answers old) ≡ record { moment = moment_of course answers old; end = Fine })
      → Does (λ m. key_hooks Do p mode key m) (under_way old had o) (under_way old had o) (end_seen e)
  unheard-key name is e fine h =
      keys-by name is (Ok e) (under_way old had o)
      (subst (λ (q : DoingEnd). Does (λ m. hooks_named Do p name key m) (under_way old had o) (under_way old had o) q) (sym fine) (does-alone (λ m. hooks_named Do p name key m) old old had o Fine refl h))

  pub key-nameless : (e : Ending) → end_seen e ≡ Fine → key_name mode ≡ None → Does (λ m. key_hooks Do p mode key m) (under_way old had o) (under_way old had o) (end_seen e)
  key-nameless e fine none = unheard-key None none e fine (λ course answers. refl)

  pub key-quiet : (name : HookName) (e : Ending) → end_seen e ≡ Fine → key_name mode ≡ Some name → p.hooks ≡ false → Does (λ m. key_hooks Do p mode key m) (under_way old had o) (under_way old had o) (end_seen e)
  key-quiet name e fine some off =
      unheard-key (Some name) some e fine (λ course answers. ap (λ (b : Bool). hear b Do p (key_event name key p.who old) (moment_of course answers old)) off)

  pub key-unheard : (name : HookName) (e : Ending) → end_seen e ≡ Fine → key_name mode ≡ Some name → p.hooks ≡ true → is_awaited name (tables_of old).hooks ≡ false
      → Does (λ m. key_hooks Do p mode key m) (under_way old had o) (under_way old had o) (end_seen e)
  key-unheard name e fine some on none =
      unheard-key (Some name) some e fine (λ course answers.
      ap (λ (b : Bool). hear b Do p (key_event name key p.who old) (moment_of course answers old)) on
      ∙ ap (λ (hooks : List HookRef). each (run_hook Do p (key_event name key p.who old).parameter) hooks (moment_of course answers old))
      (unawaited (key_event name key p.who old).buffer p.who name (key_event name key p.who old).parameter (tables_of old).hooks none))

  pub key-heard : (name : HookName) (event : HookEvent) (r : Result Ending AllocError) (new : UnderWay) → key_name mode ≡ Some name → p.hooks ≡ true → event ≡ key_event name key p.who old
      → PartEnds r (λ m. run_event Do p event m) (under_way old had o) new → PartEnds r (λ m. key_hooks Do p mode key m) (under_way old had o) new
  key-heard name event r new some on is d =
      keys-by (Some name) some r new
      (ends-at r (λ m. hooks_named Do p (Some name) key m) (λ m. run_event Do p event m) (under_way old had o) new (λ course answers.
      ap (λ (b : Bool). hear b Do p (key_event name key p.who old) (moment_of course answers old)) on
      ∙ ap (λ (q : HookEvent). run_event Do p q (moment_of course answers old)) (sym is)) d)
