-- Worked examples of hooks that are run, and of how what they do ends.
use Rattle.std.specs.Prelude.{◌≡◌, ℕ, true, List, [], ◌∷◌, Some, None}
use Rattle.key_names.specs.declared.key.Key.{Key}
use Rattle.scope_tables.specs.declared.hooks.HookRef.{HookRef}
use Rattle.kak_world.specs.declared.events.Fault.{Fault}
use Rattle.kak_world.specs.declared.events.HookEvent.{HookEvent}
use Rattle.kak_world.specs.declared.own.Mode.TheVariants.{Prompt}
use Rattle.kak_world.specs.Events.{due_of, hook_text}
use Rattle.kak_world.specs.Rows.{GivesUp}
use Rattle.kak_engine.specs.declared.place.Place.{Place}
use Rattle.kak_engine.specs.Course.{TakesDue, KeepsFault}
use Rattle.kak_engine.specs.Doing.{Fine, Failed, GivenUp, Moment, Part, done_as, budget_spent, nested_too_deep, end_still, also_after, task_done, hook_ends, run_hook, run_events, settle, key_hooks, Do}
use Rattle.kak_engine.specs.NestingExamples.{place, quiet_place}

pub record HookExamples : Type 0 where
  -- where nothing is due no hook is run, and nothing is taken
  pub nothing_due : (p : Place) (m : Moment) → due_of m.world ≡ [] → settle Do p m ≡ done_as Fine m
  -- what is due where no hooks are run is taken all the same, and no hook hears it later on
  pub quiet : (who depth : ℕ) (m : Moment) (event : HookEvent) → due_of m.world ≡ event ∷ [] → settle Do (quiet_place who depth) m ≡ done_as Fine (task_done who TakesDue m)
  -- events that are due are all taken before the first of their hooks is run
  pub taken_first : (who depth : ℕ) (m : Moment) (one other : HookEvent) → due_of m.world ≡ one ∷ other ∷ []
      → settle Do (place who depth) m ≡ run_events true Do (place who depth) (one ∷ other ∷ []) (task_done who TakesDue m)
  -- a hook that was removed isn't run
  pub removed : (p : Place) (parameter : List ℕ) (at : HookRef) (m : Moment) → hook_text at m.world ≡ None → run_hook Do p parameter at m ≡ done_as Fine m
  -- at the deepest place a hook gives the step up
  pub deepest : (who : ℕ) (parameter : List ℕ) (at : HookRef) (m : Moment) (text : List ℕ) → hook_text at m.world ≡ Some text → (run_hook Do (place who 32) parameter at m).end ≡ GivenUp nested_too_deep
  -- an error ends a hook alone, and is told; giving up ends the step
  pub failed : (who : ℕ) (fault : Fault) (m : Moment) → hook_ends who (Failed fault) m ≡ done_as Fine (task_done who (KeepsFault fault) m)
  pub given_up : (who : ℕ) (text : List ℕ) (m : Moment) → hook_ends who (GivenUp text) m ≡ done_as (GivenUp text) m
  -- a key of a prompt has no hooks, and none behind giving up has
  pub of_a_prompt : (p : Place) (key : Key) (m : Moment) → key_hooks Do p Prompt key m ≡ done_as Fine m
  pub behind_giving_up : (text : List ℕ) (hooks : Part) (m : Moment) → also_after (GivenUp text) hooks m ≡ done_as (GivenUp text) m
  -- the error of a key stands behind its hooks, unless they give the step up
  pub error_stands : (fault : Fault) → end_still (Failed fault) Fine ≡ Failed fault
  pub hooks_give_up : (fault : Fault) (text : List ℕ) → end_still (Failed fault) (GivenUp text) ≡ GivenUp text
  -- behind giving up no hook is run of what a row did
  pub given_up_row : (p : Place) (m : Moment) → Do p GivesUp m ≡ done_as (GivenUp budget_spent) m
