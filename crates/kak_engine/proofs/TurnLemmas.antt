-- Behind each event of a history no step is under way.
use Rattle.std.proofs.Common.{◌≡◌, ℕ, Bool, true, false, List, [], ◌∷◌, Option, None, refl, ap, ◌∙◌}
use Rattle.std.specs.Prelude.{if◌then◌else◌}
use Rattle.key_names.specs.declared.key.Key.{Key}
use Rattle.kak_files.specs.Files.{Shelf}
use Rattle.kak_world.specs.declared.world.Stepping.{Stepping}
use Rattle.kak_world.specs.Flat.{Flat, turn_of, rest_of, between_steps, opening, is_client_leaving, left_by_client, with_own, with_rest}
use Rattle.session_events.specs.declared.event.Event.{Event}
use Rattle.session_events.specs.declared.event.Event.TheVariants.{Join, Key as Struck, Resize, Scroll, Mouse as Pointed, Refresh, Leave}
use Rattle.session_events.specs.declared.event.Answered.{Answered}
use Rattle.session_events.specs.declared.event.Entry.{Entry}
use Rattle.kak_engine.specs.Held.{EngineStands}
use Rattle.kak_engine.specs.Steps.{struck, key_ended, after_coming, after_going, after_key, after_event, after_entry, run_from, run}

step-key : (who : ℕ) (key : Key) (answers : List Answered) (flat : Flat) → flat.rest.step ≡ between_steps → (after_key who key answers flat).rest.step ≡ between_steps
unfolding after_key with_rest
step-key who key answers flat e = by (is_client_leaving who flat)
  where
    by : (t : Bool) → (if t then flat else key_ended who key (struck who key answers flat)).rest.step ≡ between_steps
    by true = e
    by false = refl

step-event : (who : ℕ) (event : Event) (answers : List Answered) (flat : Flat) → flat.rest.step ≡ between_steps → (after_event who event answers flat).rest.step ≡ between_steps
unfolding after_coming with_rest after_going left_by_client with_own
step-event who Join answers flat e = refl
step-event who (Struck key) answers flat e = step-key who key answers flat e
step-event who (Resize size) answers flat e = e
step-event who (Scroll lines) answers flat e = refl
step-event who (Pointed mouse) answers flat e = refl
step-event who (Refresh asked) answers flat e = refl
step-event who Leave answers flat e = refl

step-from : (flat : Flat) (history : List Entry) → flat.rest.step ≡ between_steps → (run_from flat history).rest.step ≡ between_steps
step-from flat [] e = e
step-from flat (x ∷ history) e = step-from (after_entry x flat) history (step-event x.who x.event x.answers flat e)

pub steps_end : (history : List Entry) → (run history).rest.step ≡ between_steps
steps_end history = step-from opening history refl

nobody-behind : (history : List Entry) → turn_of (run history) ≡ None
unfolding rest_of
nobody-behind history = ap (λ (s : Stepping). s.turn) (steps_end history)

-- between steps it is nobody's turn
pub nobody-turns : (flat : Flat) (history : List Entry) (mark : Option ℕ) (limit : ℕ) (shelf : Option Shelf) → EngineStands flat history mark limit shelf → mark ≡ None → turn_of flat ≡ None
nobody-turns flat history mark limit shelf s m = ap turn_of (s.world m) ∙ nobody-behind history
