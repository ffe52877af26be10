-- The worked examples of what is run inside something else, of hooks, and of keys that are recorded.
use Rattle.std.proofs.Common.{ℕ, List, refl, ap}
use Rattle.std.specs.declared.option.Option.{Option}
use Rattle.key_names.specs.declared.key.Key.{Key}
use Rattle.kak_world.specs.declared.events.HookEvent.{HookEvent}
use Rattle.kak_world.specs.Rows.{GivesUp}
use Rattle.kak_engine.specs.Doing.{run_held, settle_due, strike_mapped, Do, top}
use Rattle.kak_engine.specs.HookExamples.{HookExamples}
use Rattle.kak_engine.specs.NestingExamples.{NestingExamples, place, quiet_place}
use Rattle.kak_engine.proofs.DoingLemmas.{Do-body}

pub nesting : NestingExamples
nesting = record {
  deeper = λ who text m. refl;
  deepest = λ who text m. refl;
  uncaught = λ who texts m. refl;
  none_deepest = λ who m. refl;
  none_played = λ who m. refl;
  none_run = λ who m. refl;
  none_inside = λ who. refl;
  called = λ who call m. refl;
  stands_for_none = λ who key m e. ap (λ (keys : Option (List Key)). strike_mapped Do (top who) keys key m) e;
  stands_for_one = λ who key other m e. ap (λ (keys : Option (List Key)). strike_mapped Do (top who) keys key m) e;
  recorded = λ register key. refl;
  unrecorded = λ register key. refl;
}

pub hooking : HookExamples
hooking = record {
  nothing_due = λ p m e. ap (λ (events : List HookEvent). settle_due Do p events m) e;
  quiet = λ who depth m event e. ap (λ (events : List HookEvent). settle_due Do (quiet_place who depth) events m) e;
  taken_first = λ who depth m one other e. ap (λ (events : List HookEvent). settle_due Do (place who depth) events m) e;
  removed = λ p parameter at m e. ap (λ (text : Option (List ℕ)). run_held Do p parameter at text m) e;
  deepest = λ who parameter at m text e. ap (λ (t : Option (List ℕ)). (run_held Do (place who 32) parameter at t m).end) e;
  failed = λ who fault m. refl;
  given_up = λ who text m. refl;
  of_a_prompt = λ p key m. refl;
  behind_giving_up = λ text hooks m. refl;
  error_stands = λ fault. refl;
  hooks_give_up = λ fault text. refl;
  given_up_row = λ p m. Do-body p GivesUp m;
}
