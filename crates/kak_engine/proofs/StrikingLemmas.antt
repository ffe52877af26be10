-- How a key is run with its hooks, and how keys are run from normal mode on.
use Rattle.std.proofs.Common.{◌≡◌, ℕ, List, refl, ap, ◌∙◌, sym, subst, Ok, Err}
use Rattle.std.specs.Prelude.{alloc_error}
use Rattle.std.specs.declared.result.Result.{Result}
use Rattle.std.specs.declared.alloc.AllocError.{AllocError}
use Rattle.key_names.specs.declared.key.Key.{Key}
use Rattle.kak_world.specs.declared.events.Fault.{Fault}
use Rattle.kak_world.specs.declared.own.Mode.{Mode}
use Rattle.kak_world.specs.declared.playing.PlayKeys.{PlayKeys}
use Rattle.kak_world.specs.Flat.{Flat, mode_of, units_of}
use Rattle.session_events.specs.declared.event.Answered.{Answered}
use Rattle.kak_engine.specs.declared.ending.Ending.{Ending}
use Rattle.kak_engine.specs.declared.ending.Ending.TheVariants as code
use Rattle.kak_engine.specs.declared.ending.Limit.{Limit}
use Rattle.kak_engine.specs.declared.ending.Limit.TheVariants.{Units}
use Rattle.kak_engine.specs.declared.place.Place.{Place}
use Rattle.kak_engine.specs.Course.{RunsKey, GoesNormal}
use Rattle.kak_engine.specs.Doing.{DoingEnd, Fine, Failed, GivenUp, Moment, Outcome, Part, done_as, and_then, and_also, end_still, each, with_unit, normal_again, run_task, task_done, task_settled, key_hooks, strike, play_key, normal_after, play_once, Do, budget_spent}
use Rattle.kak_engine.specs.Honesty.{Outside}
use Rattle.kak_engine.specs.Seen.{Does, IsCutShort, PartEnds, end_seen, limit_text, moment_of, UnderWay, under_way}
use Rattle.kak_engine.proofs.AskingLaws.{grows-with-also, grows-hooks, grows-normal, grows-from, grows-settled, grows-do, begins-same}
use Rattle.kak_engine.proofs.EndLemmas.{ends-at, does-alone, does-task, cut-before, unit-wanting}
use Rattle.kak_engine.proofs.LoopLemmas.{behind-does, behind-ends, also-does, also-cut, first-cut, stops}

-- a key, which takes a unit
module _ (p : Place) (key : Key) (old : Flat) (had : List Answered) (o : Outside) (mode : Mode) (m : mode ≡ mode_of p.who old) where
  strike-at : (r : Result Ending AllocError) (new : UnderWay) → PartEnds r (λ n. and_also (with_unit (run_task Do p (RunsKey key)) n) (key_hooks Do p mode key)) (under_way old had o) new → PartEnds r (λ n. strike Do p key n) (under_way old had o) new
  strike-at r new d =
      ends-at r (λ n. strike Do p key n) (λ n. and_also (with_unit (run_task Do p (RunsKey key)) n) (key_hooks Do p mode key)) (under_way old had o) new
      (λ course answers. ap (λ (x : Mode). and_also (with_unit (run_task Do p (RunsKey key)) (moment_of course answers old)) (key_hooks Do p x key)) (sym m)) d

  -- no unit was left, and memory was wanting for its row or behind that
  pub struck-spent : (e : Ending) (now : Flat) → end_seen e ≡ GivenUp budget_spent → units_of old ≡ 0 → now ≡ old → Does (λ n. strike Do p key n) (under_way old had o) (under_way now had o) (end_seen e)
  struck-spent e now spent none same =
      strike-at (Ok e) (under_way now had o)
      (subst (λ (q : DoingEnd). Does (λ n. and_also (with_unit (run_task Do p (RunsKey key)) n) (key_hooks Do p mode key)) (under_way old had o) (under_way now had o) q) (sym spent)
      (stops (λ q. and_also q (key_hooks Do p mode key)) (λ n. with_unit (run_task Do p (RunsKey key)) n) (under_way old had o) (under_way now had o) (GivenUp budget_spent) (λ n. refl)
      (does-alone (λ n. with_unit (run_task Do p (RunsKey key)) n) old now had o (GivenUp budget_spent) same (λ course answers. unit-wanting (run_task Do p (RunsKey key)) old now course answers none same))))

  pub struck-cut : (new : UnderWay) → IsCutShort (λ n. with_unit (run_task Do p (RunsKey key)) n) (under_way old had o) new → IsCutShort (λ n. strike Do p key n) (under_way old had o) new
  struck-cut new d =
      strike-at (Err alloc_error) new
      (first-cut (λ q. and_also q (key_hooks Do p mode key)) (λ n. with_unit (run_task Do p (RunsKey key)) n) (under_way old had o) new (λ q. grows-with-also q (key_hooks Do p mode key) (grows-hooks Do p mode key grows-do)) d)

  -- by how the row ended with what it asked for
  module _ (mid : UnderWay) (ending : Ending) (did : Does (λ n. with_unit (run_task Do p (RunsKey key)) n) (under_way old had o) mid (end_seen ending)) where
    pub struck-fine : (heard result : Ending) (new : UnderWay) → ending ≡ code.Fine → Does (λ n. key_hooks Do p mode key n) mid new (end_seen heard) → end_seen result ≡ end_still Fine (end_seen heard)
        → Does (λ n. strike Do p key n) (under_way old had o) new (end_seen result)
    struck-fine heard result new is h e =
        strike-at (Ok result) new
        (also-does (λ q. and_also q (key_hooks Do p mode key)) (λ n. with_unit (run_task Do p (RunsKey key)) n) (key_hooks Do p mode key) (under_way old had o) mid new Fine ending heard result (ap end_seen is) (λ n. refl) did h e)

    pub struck-failed : (fault : Fault) (heard result : Ending) (new : UnderWay) → ending ≡ code.Failed fault → Does (λ n. key_hooks Do p mode key n) mid new (end_seen heard) → end_seen result ≡ end_still (Failed fault) (end_seen heard)
        → Does (λ n. strike Do p key n) (under_way old had o) new (end_seen result)
    struck-failed fault heard result new is h e =
        strike-at (Ok result) new
        (also-does (λ q. and_also q (key_hooks Do p mode key)) (λ n. with_unit (run_task Do p (RunsKey key)) n) (key_hooks Do p mode key) (under_way old had o) mid new (Failed fault) ending heard result (ap end_seen is) (λ n. refl) did h e)

    pub struck-fine-cut : (new : UnderWay) → ending ≡ code.Fine → IsCutShort (λ n. key_hooks Do p mode key n) mid new → IsCutShort (λ n. strike Do p key n) (under_way old had o) new
    struck-fine-cut new is h =
        strike-at (Err alloc_error) new
        (also-cut (λ q. and_also q (key_hooks Do p mode key)) (λ n. with_unit (run_task Do p (RunsKey key)) n) (key_hooks Do p mode key) (under_way old had o) mid new Fine ending (ap end_seen is) (λ n. refl) did h)

    pub struck-failed-cut : (fault : Fault) (new : UnderWay) → ending ≡ code.Failed fault → IsCutShort (λ n. key_hooks Do p mode key n) mid new → IsCutShort (λ n. strike Do p key n) (under_way old had o) new
    struck-failed-cut fault new is h =
        strike-at (Err alloc_error) new
        (also-cut (λ q. and_also q (key_hooks Do p mode key)) (λ n. with_unit (run_task Do p (RunsKey key)) n) (key_hooks Do p mode key) (under_way old had o) mid new (Failed fault) ending (ap end_seen is) (λ n. refl) did h)

    pub struck-given-up : (limit : Limit) → ending ≡ code.GivenUp limit → Does (λ n. strike Do p key n) (under_way old had o) mid (GivenUp (limit_text limit))
    struck-given-up limit is =
        strike-at (Ok (code.GivenUp limit)) mid
        (stops (λ q. and_also q (key_hooks Do p mode key)) (λ n. with_unit (run_task Do p (RunsKey key)) n) (under_way old had o) mid (GivenUp (limit_text limit)) (λ n. refl)
        (subst (λ e. Does (λ n. with_unit (run_task Do p (RunsKey key)) n) (under_way old had o) mid (end_seen e)) is did))

-- keys from normal mode on, and the way back to it
module _ (p : Place) (play : PlayKeys) (old : UnderWay) where
  abbrev Keys : Part
  Keys = λ m. and_then (task_settled Do p GoesNormal m) (each (play_key Do p play.maps) play.keys)

  pub once-cut : (new : UnderWay) → IsCutShort Keys old new → IsCutShort (λ m. play_once Do p play m) old new
  once-cut new d = first-cut (normal_after Do p) Keys old new (λ q. grows-normal Do p q.end grows-do q.moment) d

  module _ (mid : UnderWay) (ending : Ending) (did : Does Keys old mid (end_seen ending)) where
    pub once-fine : (left result : Ending) (new : UnderWay) → ending ≡ code.Fine → Does (λ m. task_settled Do p GoesNormal m) mid new (end_seen left) → end_seen result ≡ end_still Fine (end_seen left) → Does (λ m. play_once Do p play m) old new (end_seen result)
    once-fine left result new is n e = also-does (normal_after Do p) Keys (task_settled Do p GoesNormal) old mid new Fine ending left result (ap end_seen is) (λ m. refl) did n e

    pub once-failed : (fault : Fault) (left result : Ending) (new : UnderWay) → ending ≡ code.Failed fault → Does (λ m. task_settled Do p GoesNormal m) mid new (end_seen left) → end_seen result ≡ end_still (Failed fault) (end_seen left)
        → Does (λ m. play_once Do p play m) old new (end_seen result)
    once-failed fault left result new is n e = also-does (normal_after Do p) Keys (task_settled Do p GoesNormal) old mid new (Failed fault) ending left result (ap end_seen is) (λ m. refl) did n e

    pub once-fine-cut : (new : UnderWay) → ending ≡ code.Fine → IsCutShort (λ m. task_settled Do p GoesNormal m) mid new → IsCutShort (λ m. play_once Do p play m) old new
    once-fine-cut new is n = also-cut (normal_after Do p) Keys (task_settled Do p GoesNormal) old mid new Fine ending (ap end_seen is) (λ m. refl) did n

    pub once-failed-cut : (fault : Fault) (new : UnderWay) → ending ≡ code.Failed fault → IsCutShort (λ m. task_settled Do p GoesNormal m) mid new → IsCutShort (λ m. play_once Do p play m) old new
    once-failed-cut fault new is n = also-cut (normal_after Do p) Keys (task_settled Do p GoesNormal) old mid new (Failed fault) ending (ap end_seen is) (λ m. refl) did n

    module _ (limit : Limit) (is : ending ≡ code.GivenUp limit) where
      abbrev Leaving : Part
      Leaving = λ m. done_as (GivenUp (limit_text limit)) (task_done p.who GoesNormal m)

      pub once-given-up : (now : Flat) → now ≡ normal_again p.who mid.world → Does (λ m. play_once Do p play m) old (under_way now mid.had mid.outside) (GivenUp (limit_text limit))
      once-given-up now n =
          behind-does (normal_after Do p) Keys Leaving old mid (under_way now mid.had mid.outside) (GivenUp (limit_text limit)) (GivenUp (limit_text limit)) (λ m. refl) (subst (λ e. Does Keys old mid (end_seen e)) is did)
          (does-task p.who GoesNormal (GivenUp (limit_text limit)) mid.world now mid.had mid.outside n)

      pub once-given-up-cut : (now : Flat) → now ≡ mid.world → IsCutShort (λ m. play_once Do p play m) old (under_way now mid.had mid.outside)
      once-given-up-cut now n =
          behind-ends (normal_after Do p) Keys Leaving (Err alloc_error) old mid (under_way now mid.had mid.outside) (GivenUp (limit_text limit)) (λ m. refl) (subst (λ e. Does Keys old mid (end_seen e)) is did)
          (cut-before Leaving mid (under_way now mid.had mid.outside) (grows-from p.who GoesNormal (done_as (GivenUp (limit_text limit))) (λ m. begins-same m.course)) refl n)
