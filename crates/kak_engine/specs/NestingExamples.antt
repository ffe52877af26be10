-- Worked examples of what is run inside something else, and of keys that are recorded.
use Rattle.std.specs.Prelude.{◌≡◌, ℕ, Bool, true, false, List, [], ◌∷◌, option_map, Some, None}
use Rattle.key_names.specs.declared.key.Key.{Key}
use Rattle.kak_world.specs.declared.ask.Ask.TheVariants.{Play, Eval, Try, Call}
use Rattle.kak_world.specs.declared.playing.TryTexts.{TryTexts}
use Rattle.kak_world.specs.declared.playing.CallText.{CallText}
use Rattle.kak_world.specs.declared.playing.PlayKeys.{PlayKeys}
use Rattle.kak_world.specs.Running.{keys_mapped}
use Rattle.kak_world.specs.Events.{due_of}
use Rattle.kak_engine.specs.declared.place.Place.{Place}
use Rattle.kak_engine.specs.Course.{GoesNormal}
use Rattle.kak_engine.specs.Doing.{Fine, GivenUp, Moment, nested_too_deep, done_as, and_then, run_text, run_with, run_events, task_settled, strike, play_key, quiet_unless, normal_after, play_nested, do_ask, Do, top}
use Rattle.kak_engine.specs.Recording.{listens, with_struck}

-- a place so deep, where hooks are run, and where they aren't
abbrev pub place : ℕ → ℕ → Place
place who depth = record { who = who; depth = depth; hooks = true }

abbrev pub quiet_place : ℕ → ℕ → Place
quiet_place who depth = record { who = who; depth = depth; hooks = false }

-- a play of no keys, with hooks or without
abbrev pub no_keys : Bool → PlayKeys
no_keys hooks = record { keys = []; hooks = hooks; maps = false; again = None }

pub record NestingExamples : Type 0 where
  -- a text is run one deeper than what asks for it, and at the deepest place the step is given up
  pub deeper : (who : ℕ) (text : List ℕ) (m : Moment) → do_ask Do (place who 31) (Eval text) m ≡ run_text Do (place who 32) text m
  pub deepest : (who : ℕ) (text : List ℕ) (m : Moment) → do_ask Do (place who 32) (Eval text) m ≡ done_as (GivenUp nested_too_deep) m
  -- that isn't caught
  pub uncaught : (who : ℕ) (texts : TryTexts) (m : Moment) → do_ask Do (place who 32) (Try texts) m ≡ done_as (GivenUp nested_too_deep) m
  -- also where there is nothing to be run
  pub none_deepest : (who : ℕ) (m : Moment) → do_ask Do (place who 32) (Play (no_keys true)) m ≡ done_as (GivenUp nested_too_deep) m
  -- no keys: the client comes to normal mode, and does so again; hooks that aren't asked for aren't run
  pub none_played : (who : ℕ) (m : Moment) → play_nested Do (top who) (no_keys false) m ≡ normal_after Do (quiet_place who 1) (and_then (task_settled Do (quiet_place who 1) GoesNormal m) (done_as Fine))
  pub none_run : (who : ℕ) (m : Moment) → run_events (quiet_place who 1).hooks Do (quiet_place who 1) (due_of m.world) m ≡ done_as Fine m
  -- and inside such a play not by another one that asks for them
  pub none_inside : (who : ℕ) → quiet_unless true (quiet_place who 2) ≡ quiet_place who 2
  -- what a command was defined as is run with its words
  pub called : (who : ℕ) (call : CallText) (m : Moment) → do_ask Do (top who) (Call call) m ≡ run_with Do (place who 1) call.arguments call.text m
  -- a key that stands for no keys does nothing, and takes no unit
  pub stands_for_none : (who : ℕ) (key : Key) (m : Moment) → keys_mapped who key m.world ≡ Some [] → play_key Do (top who) true key m ≡ done_as Fine m
  -- one that stands for another is run one deeper
  pub stands_for_one : (who : ℕ) (key other : Key) (m : Moment) → keys_mapped who key m.world ≡ Some (other ∷ [])
      → play_key Do (top who) true key m ≡ and_then (strike Do (place who 1) other m) (done_as Fine)
  -- a key is recorded that is struck behind the one that began it, and not that one
  pub recorded : (register : ℕ) (key : Key) → option_map (with_struck key) (listens (Some (record { register = register; struck = []; listens = false }))) ≡ Some (record { register = register; struck = key ∷ []; listens = true })
  pub unrecorded : (register : ℕ) (key : Key) → option_map (with_struck key) (Some (record { register = register; struck = []; listens = false })) ≡ Some (record { register = register; struck = []; listens = false })
