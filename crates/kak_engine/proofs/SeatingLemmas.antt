-- What a step at the seats of an engine leaves of what they keep, and how they end.
use Rattle.std.proofs.Common.{◌≡◌, ℕ, Bool, true, false, List, [], ◌∷◌, ◌++◌, length, refl, sym, ap, ◌∙◌, subst, append-nil, Ok, Err}
use Rattle.std.specs.Prelude.{◌⊎◌, Some, None, is_some, IfOk, IfErr, IfSome, OnErr, if◌then◌else◌, ◌==◌}
use Rattle.std.specs.declared.result.Result.{Result}
use Rattle.std.specs.declared.option.Option.{Option}
use Rattle.std.proofs.lemmas.Bool.{eq-eqb}
use Rattle.std.proofs.lemmas.List.{append_assoc}
use Rattle.kak_world.specs.Flat.{Flat, opening}
use Rattle.session_events.specs.declared.event.Event.{Event}
use Rattle.session_events.specs.declared.event.Answered.{Answered}
use Rattle.session_events.specs.declared.event.Entry.{Entry}
use Rattle.session_events.specs.declared.event.Output.{Output}
use Rattle.session_events.specs.declared.fault.StepFault.{StepFault}
use Rattle.session_events.specs.declared.fault.StepFault.TheVariants.{Broken, NoClient, Joined, HistoryFull, Full, NoMemory}
use Rattle.session_events.specs.declared.event.Event.TheVariants.{Join, Key as Struck, Resize, Scroll, Mouse as Pointed, Refresh, Leave}
use Rattle.session_events.specs.Entries.{kind_of, is_leave, is_drawing, entry_with, others_of}
use Rattle.session_events.specs.Meaning.{may_let_go, IsMeaning}
use Rattle.session_events.specs.Seats.{Steps, StaysUnbroken}
use Rattle.kak_engine.specs.Asking.{Asked}
use Rattle.kak_engine.specs.Steps.{output_of, asked_by, asked_in, answers_in, run, given_by, parting_by, IsStepLeft}
use Rattle.kak_engine.specs.Honesty.{Outside, IsHonest}
use Rattle.kak_engine.specs.Held.{HeldEngine, new_engine, TakesEvent, LeavesInside, refused_at, event_refusal, marked_by, marked_after}
use Rattle.kak_engine.specs.Rescue.{Rescues}
use Rattle.std.specs.declared.alloc.AllocError.{AllocError}
use Rattle.kak_engine.specs.Seating.{seat_of, BrokeBehind, EndsBehind, WasHonest, StandsBehind, WasLost, ClosesBehind, WasClosed, IsRescuedIf}
use Rattle.kak_engine.proofs.HonestLemmas.{honest-none, honest-behind}
use Rattle.kak_engine.proofs.LegalLemmas.{allowed}
use Rattle.kak_engine.proofs.RunLemmas.{asked_in-more, mark-none, refused-none}
use Rattle.kak_engine.proofs.WhyLemmas.{IsPlain, plain-reason}

abbrev taken : Output → Result Output StepFault
taken o = Ok o

abbrev faulty : StepFault → Result Output StepFault
faulty f = Err f

-- what entries give is what they may give in any session
pub given-meaning : IsMeaning given_by
given-meaning = record { undrawn = undrawn; stays = stays }
  where
    undrawn : (before : List Entry) (who : ℕ) (event : Event) (answers : List Answered) → is_drawing event ≡ false → (given_by before (entry_with who event answers)).drawing ≡ None
    undrawn before who Join answers d = refl
    undrawn before who (Struck key) answers d = refl
    undrawn before who (Resize size) answers d = refl
    undrawn before who (Scroll lines) answers d = refl
    undrawn before who (Pointed mouse) answers d = refl
    undrawn before who (Refresh asked) answers d = cc
    undrawn before who Leave answers d = refl

    stays : (before : List Entry) (who : ℕ) (event : Event) (answers : List Answered) → may_let_go (kind_of event) ≡ false → (given_by before (entry_with who event answers)).leaving ≡ false
    stays before who Join answers s = cc
    stays before who (Struck key) answers s = cc
    stays before who (Resize size) answers s = cc
    stays before who (Scroll lines) answers s = cc
    stays before who (Pointed mouse) answers s = cc
    stays before who (Refresh asked) answers s = refl
    stays before who Leave answers s = refl

-- the entries of others are the same behind one more of the client's own
others-own : (who : ℕ) (h : List Entry) (event : Event) (answers : List Answered) → others_of who (h ++ entry_with who event answers ∷ []) ≡ others_of who h
others-own who [] event answers = own (who == who) (eq-eqb who who refl)
  where
    own : (b : Bool) → b ≡ true → (if b then [] else entry_with who event answers ∷ []) ≡ []
    own true e = refl
    own false e = cc
others-own who (x ∷ h) event answers = by (x.who == who) (others-own who h event answers)
  where
    by : (b : Bool) → others_of who (h ++ entry_with who event answers ∷ []) ≡ others_of who h → (if b then others_of who (h ++ entry_with who event answers ∷ []) else x ∷ others_of who (h ++ entry_with who event answers ∷ [])) ≡ (if b then others_of who h else x ∷ others_of who h)
    by true same = same
    by false same = ap (λ r. x ∷ r) same

module _ (who : ℕ) (event : Event) (x y : HeldEngine) where
  -- no entry of another came
  pub others-same : (r : Result Output StepFault) → IfOk r (λ o. TakesEvent who event x y o) → OnErr r (y.history ≡ x.history) → Some (others_of who y.history) ≡ Some (others_of who x.history)
  others-same (Ok o) t e = ap (λ h. Some (others_of who h)) t.keeps ∙ ap Some (others-own who x.history event t.answers)
  others-same (Err f) t e = ap (λ h. Some (others_of who h)) e

  -- the client's step, as a seat tells it
  pub alone-steps : (r : Result Output StepFault) (first : Outside) → IfOk r (λ o. TakesEvent who event x y o)
      → IfOk r (λ o. Steps given_by (seat_of (record { engine = x; who = who; first = first })) (seat_of (record { engine = y; who = who; first = first })) event o)
  alone-steps (Ok o) first t = record {
    between = [];
    answers = t.answers;
    foreign = refl;
    stands = t.keeps ∙ ap (λ h. h ++ entry_with who event t.answers ∷ []) (sym (append-nil x.history));
    is = t.gives ∙ ap (λ h. output_of who event t.answers (run h)) (sym (append-nil x.history));
  }
  alone-steps (Err e) first t = tt

  -- where the engine is seen to be broken, that is told
  whole-mark : (mark : Option ℕ) (r : Result Output StepFault) → IfSome (refused_at mark x.history x.limit who event) (λ fault. (r ≡ Err fault) × (y.outside ≡ x.outside)) → ((at : ℕ) → r ≡ Err (Broken at) → ⊥) → mark ≡ None
  whole-mark None r refused whole = refl
  whole-mark (Some at) r refused whole = absurd (whole at refused.0)

  pub alone-whole : (r : Result Output StepFault) (first : Outside) → IfSome (event_refusal x who event) (λ fault. (r ≡ Err fault) × (y.outside ≡ x.outside)) → y.mark ≡ marked_after r x → StaysUnbroken r (seat_of (record { engine = y; who = who; first = first }))
  alone-whole (Ok o) first refused m = m ∙ whole-mark x.mark (taken o) refused (λ at e. let no : taken o ≡ faulty (Broken at) = e in cc)
  alone-whole (Err NoMemory) first refused m = tt
  alone-whole (Err (Broken at)) first refused m = tt
  alone-whole (Err (NoClient k)) first refused m = m ∙ whole-mark x.mark (faulty (NoClient k)) refused (λ at e. let no : faulty (NoClient k) ≡ faulty (Broken at) = e in cc)
  alone-whole (Err (Joined k)) first refused m = m ∙ whole-mark x.mark (faulty (Joined k)) refused (λ at e. let no : faulty (Joined k) ≡ faulty (Broken at) = e in cc)
  alone-whole (Err HistoryFull) first refused m = m ∙ whole-mark x.mark (faulty HistoryFull) refused (λ at e. let no : faulty HistoryFull ≡ faulty (Broken at) = e in cc)
  alone-whole (Err Full) first refused m = m ∙ whole-mark x.mark (faulty Full) refused (λ at e. let no : faulty Full ≡ faulty (Broken at) = e in cc)

-- what was answered behind one entry more
answers-more : (h : List Entry) (who : ℕ) (event : Event) (answers : List Answered) → answers_in (h ++ entry_with who event answers ∷ []) ≡ answers_in h ++ answers
answers-more [] who event answers = append-nil answers
answers-more (x ∷ h) who event answers = ap (λ (r : List Answered). x.answers ++ r) (answers-more h who event answers) ∙ sym (append_assoc x.answers (answers_in h) answers)

-- nothing was asked for at first
pub honest-first : (outside : Outside) (limit : ℕ) → WasHonest (new_engine outside limit) outside
honest-first outside limit = record { behind = outside; honest = honest-none outside; ends = refl; unrescued = refl }

module _ (first : Outside) (who : ℕ) (event : Event) (x y : HeldEngine) (was : WasHonest x first) where
  -- an engine that isn't broken left the outside alone
  alone : x.mark ≡ None → x.outside ≡ was.behind
  alone free =
      let Ends : Option ℕ → Type 0 = λ m. EndsBehind m x.history x.inside was.behind x.outside in
      subst Ends free was.ends

  -- the outside was honest in one entry more
  takes-honest : (o : Output) → x.mark ≡ None → y.mark ≡ x.mark → y.rescued ≡ x.rescued → TakesEvent who event x y o → WasHonest y first
  takes-honest o free same rescued t = record {
    behind = y.outside;
    honest = subst (λ h. IsHonest (answers_in h) (asked_in h) first y.outside) (sym t.keeps) (
        subst (λ (a : List Answered). IsHonest a (asked_in longer) first y.outside) (sym (answers-more x.history who event t.answers)) (
        subst (λ (e : List Asked). IsHonest (answers_in x.history ++ t.answers) e first y.outside) (sym (asked_in-more opening x.history who event t.answers)) (
        honest-behind (answers_in x.history) t.answers (asked_in x.history) (asked_by who event t.answers (run x.history)) first x.outside y.outside before t.honest)));
    ends = subst (λ (m : Option ℕ). EndsBehind m y.history y.inside y.outside y.outside) (sym (same ∙ free)) refl;
    unrescued = rescued ∙ was.unrescued;
  }
    where
      longer : List Entry
      longer = x.history ++ entry_with who event t.answers ∷ []

      before : IsHonest (answers_in x.history) (asked_in x.history) first x.outside
      before = subst (λ (q : Outside). IsHonest (answers_in x.history) (asked_in x.history) first q) (sym (alone free)) was.honest

  granted-none : (o : Output) (refusal : Option StepFault) → IfSome refusal (λ fault. (taken o ≡ Err fault) × (y.outside ≡ x.outside)) → refusal ≡ None
  granted-none o None refused = refl
  granted-none o (Some fault) refused = let no : taken o ≡ Err fault = refused.0 in cc

  -- a refusal that isn't want of memory leaves the mark
  plain-mark : (f : StepFault) → IsPlain f → marked_after (faulty f) x ≡ x.mark
  plain-mark (Broken at) p = refl
  plain-mark (NoClient k) p = refl
  plain-mark (Joined k) p = refl
  plain-mark HistoryFull p = refl
  plain-mark Full p = refl
  plain-mark NoMemory p = absurd p

  due-mark : (mark : Option ℕ) (f : StepFault) → refused_at mark x.history x.limit who event ≡ Some f → marked_after (faulty f) x ≡ x.mark
  due-mark (Some at) f e = let s : Broken at ≡ f = cc in subst (λ k. marked_after (faulty k) x ≡ x.mark) s refl
  due-mark None f e = plain-mark f (plain-reason x.limit x.history who event f None None e).0

  -- behind the history the engine broke by this event, or, where that was refused, stands as it did
  still-ends : (m : Option ℕ) (h : List Entry) (inside : Flat) (now : Outside) → m ≡ x.mark → h ≡ x.history → inside ≡ x.inside → now ≡ x.outside → EndsBehind m h inside was.behind now
  still-ends m h inside now mark history world outside =
      subst (λ (q : Outside). EndsBehind m h inside was.behind q) (sym outside) (
      subst (λ (f : Flat). EndsBehind m h f was.behind x.outside) (sym world) (
      subst (λ (l : List Entry). EndsBehind m l x.inside was.behind x.outside) (sym history) (
      subst (λ (k : Option ℕ). EndsBehind k x.history x.inside was.behind x.outside) (sym mark) was.ends)))

  broke-now : (f : StepFault) → event_refusal x who event ≡ None → f ≡ NoMemory → y.mark ≡ marked_after (faulty f) x → y.history ≡ x.history → LeavesInside who event x y → EndsBehind y.mark y.history y.inside was.behind y.outside
  broke-now f none wanting m e left =
      let free : x.mark ≡ None = mark-none x.mark x.history x.limit who event none in
      let at : y.mark ≡ Some (length x.history) = m ∙ ap (λ k. marked_after (faulty k) x) wanting ∙ ap (λ k. marked_by k (length x.history)) free in
      let broke : BrokeBehind x.history y.inside was.behind y.outside = record {
        who = who;
        event = event;
        here = (allowed x.history x.limit who event (refused-none x.mark x.history x.limit who event none)).joined;
        left = subst (λ (q : Outside). IsStepLeft who event (run x.history) y.inside q y.outside) (alone free) left;
      } in
      subst (λ (k : Option ℕ). EndsBehind k y.history y.inside was.behind y.outside) (sym at) (subst (λ (l : List Entry). BrokeBehind l y.inside was.behind y.outside) (sym e) broke)

  err-ends : (f : StepFault) (refusal : Option StepFault) → event_refusal x who event ≡ refusal → IfSome refusal (λ fault. (faulty f ≡ Err fault) × (y.outside ≡ x.outside)) → IfSome refusal (λ fault. y.inside ≡ x.inside) → (refusal ≡ None → f ≡ NoMemory)
      → y.history ≡ x.history → (refusal ≡ None → LeavesInside who event x y) → y.mark ≡ marked_after (faulty f) x → EndsBehind y.mark y.history y.inside was.behind y.outside
  err-ends f (Some due) is refused stays answered e left m =
      let same : faulty f ≡ faulty due = refused.0 in
      let s : f ≡ due = cc in
      still-ends y.mark y.history y.inside y.outside (m ∙ ap (λ k. marked_after (faulty k) x) s ∙ due-mark x.mark due is) e stays refused.1
  err-ends f None is refused stays answered e left m = broke-now f is (answered refl) m e (left refl)

  -- the outside was honest still behind a step
  pub step-honest : (r : Result Output StepFault) → IfSome (event_refusal x who event) (λ fault. (r ≡ Err fault) × (y.outside ≡ x.outside)) → IfSome (event_refusal x who event) (λ fault. y.inside ≡ x.inside)
      → (event_refusal x who event ≡ None → IfErr r (λ fault. (fault ≡ NoMemory) × ((is_leave event ≡ false) ⊎ (parting_by x.history ≡ true)))) → IfOk r (λ o. TakesEvent who event x y o) → OnErr r (y.history ≡ x.history)
      → (event_refusal x who event ≡ None → OnErr r (LeavesInside who event x y)) → y.mark ≡ marked_after r x → y.rescued ≡ x.rescued → WasHonest y first
  step-honest (Ok o) refused stays answered t e left m rescued =
      takes-honest o (mark-none x.mark x.history x.limit who event (granted-none o (event_refusal x who event) refused)) m rescued t
  step-honest (Err f) refused stays answered t e left m rescued = record {
    behind = was.behind;
    honest = subst (λ h. IsHonest (answers_in h) (asked_in h) first was.behind) (sym e) was.honest;
    ends = err-ends f (event_refusal x who event) refl refused stays (λ n. (answered n).0) e left m;
    unrescued = rescued ∙ was.unrescued;
  }

-- how the outside was left by an engine that isn't broken
pub honest-whole : (held : HeldEngine) (first last : Outside) → WasHonest held first → held.mark ≡ None → last ≡ held.outside → IsHonest (answers_in held.history) (asked_in held.history) first last
honest-whole held first last was free same =
    let Ends : Option ℕ → Type 0 = λ m. EndsBehind m held.history held.inside was.behind held.outside in
    let still : held.outside ≡ was.behind = subst Ends free was.ends in
    subst (λ (o : Outside). IsHonest (answers_in held.history) (asked_in held.history) first o) (sym (same ∙ still)) was.honest

-- a session that was lost, and its texts rescued
stands-behind : (mark : Option ℕ) (history : List Entry) (inside : Flat) (behind now : Outside) → EndsBehind mark history inside behind now → (mark ≡ None → inside ≡ run history) → StandsBehind mark history inside behind now
stands-behind None history inside behind now ends world = (world refl, ends)
stands-behind (Some at) history inside behind now ends world = ends

pub loses : (held : HeldEngine) (first last : Outside) (result : Result ℕ AllocError) → WasHonest held first → (held.mark ≡ None → held.inside ≡ run held.history) → Rescues held.inside result held.outside last → WasLost held.history held.mark held.inside first last
loses held first last result was world rescues = record {
  behind = was.behind;
  honest = was.honest;
  rescued = record { now = held.outside; stands = stands-behind held.mark held.history held.inside was.behind held.outside was.ends world; result = result; rescues = rescues };
}

-- a session that is over: a broken engine's texts are rescued
closes-behind : (mark : Option ℕ) (old new : HeldEngine) (behind : Outside) → EndsBehind mark old.history old.inside behind old.outside → IsRescuedIf mark old new → ClosesBehind mark old.history old.inside behind new.outside
closes-behind None old new behind ends same = ap (λ (h : HeldEngine). h.outside) same ∙ ends
closes-behind (Some at) old new behind ends rescued = record { now = old.outside; stands = ends; result = rescued.0; rescues = rescued.1.0 }

-- of the engine that is left the same holds
closed-as : (mark : Option ℕ) (old new : HeldEngine) (first last : Outside) → IsRescuedIf mark old new → WasClosed old.history old.mark old.inside first last → WasClosed new.history new.mark new.inside first last
closed-as None old new first last same closed = subst (λ (h : HeldEngine). WasClosed h.history h.mark h.inside first last) (sym same) closed
closed-as (Some at) old new first last rescued closed = subst (λ (h : HeldEngine). WasClosed h.history h.mark h.inside first last) (sym rescued.1.1) closed

pub closed-engine : (old new : HeldEngine) (first : Outside) → WasHonest old first → IsRescuedIf old.mark old new → WasClosed new.history new.mark new.inside first new.outside
closed-engine old new first was rescued =
    closed-as old.mark old new first new.outside rescued (record { behind = was.behind; honest = was.honest; ends = closes-behind old.mark old new was.behind was.ends rescued })

-- a broken engine's texts were rescued then, and no other one's
pub rescued-as : (mark : Option ℕ) (old new : HeldEngine) → IsRescuedIf mark old new → old.mark ≡ mark → old.rescued ≡ false → new.rescued ≡ is_some new.mark
rescued-as None old new same m fresh = ap (λ (h : HeldEngine). h.rescued) same ∙ fresh ∙ sym (ap is_some (ap (λ (h : HeldEngine). h.mark) same ∙ m))
rescued-as (Some at) old new rescued m fresh = ap (λ (h : HeldEngine). h.rescued) rescued.1.1 ∙ sym (ap is_some (ap (λ (h : HeldEngine). h.mark) rescued.1.1 ∙ m))
