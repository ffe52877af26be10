-- Why a step at the seats of an engine is refused.
use Rattle.std.proofs.Common.{◌≡◌, ⊎_elim, inl, inr, ℕ, Bool, true, false, List, length, refl, sym, ap, ◌∙◌, subst, Ok, Err}
use Rattle.std.specs.Prelude.{◌⊎◌, if◌then◌else◌, ◌&&◌, not, nat_le, IfSome, IfErr, OnErr, Some, None, ⊤}
use Rattle.std.specs.declared.result.Result.{Result}
use Rattle.std.specs.declared.option.Option.{Option}
use Rattle.std.proofs.lemmas.Bool.{leb-true}
use Rattle.session_events.specs.declared.event.Event.{Event}
use Rattle.session_events.specs.declared.event.Entry.{Entry}
use Rattle.session_events.specs.declared.event.Output.{Output}
use Rattle.session_events.specs.declared.fault.StepFault.{StepFault}
use Rattle.session_events.specs.declared.fault.StepFault.TheVariants.{Broken, NoClient, Joined, HistoryFull, Full, NoMemory}
use Rattle.session_events.specs.Entries.{is_join, is_leave, has_joined, others_of}
use Rattle.session_events.specs.Legal.{Away, is_here, presence_from}
use Rattle.session_events.specs.Seats.{Refuses}
use Rattle.kak_engine.specs.Steps.{run, is_session_full, crowded_by, parting_by}
use Rattle.kak_engine.specs.Honesty.{Outside}
use Rattle.kak_engine.specs.Held.{HeldEngine, refused_at, refused_by, event_refusal, marked_by, marked_after}
use Rattle.kak_engine.specs.Seating.{seat_of}

abbrev faulty : StepFault → Result Output StepFault
faulty f = Err f

-- a refusal for a reason that the history gives
abbrev pub IsPlain : StepFault → Type 0
IsPlain (Broken at) = ⊥
IsPlain NoMemory = ⊥
IsPlain _ = ⊤

-- the first reason that holds has what is shown of each
chain : (P : StepFault → Type 0) (who : ℕ) (a b c d : Bool) (fault : StepFault) → (a ≡ true → P (NoClient who)) → (b ≡ true → P (Joined who)) → (c ≡ true → P HistoryFull) → (d ≡ true → P Full)
    → (if a then Some (NoClient who) else (if b then Some (Joined who) else (if c then Some HistoryFull else (if d then Some Full else None)))) ≡ Some fault → P fault
chain P who true b c d fault f g h k e = subst P (let s : NoClient who ≡ fault = cc in s) (f refl)
chain P who false true c d fault f g h k e = subst P (let s : Joined who ≡ fault = cc in s) (g refl)
chain P who false false true d fault f g h k e = subst P (let s : HistoryFull ≡ fault = cc in s) (h refl)
chain P who false false false true fault f g h k e = subst P (let s : Full ≡ fault = cc in s) (k refl)
chain P who false false false false fault f g h k e = cc

both-not : (a b : Bool) → (not a && not b) ≡ true → (a ≡ false) × (b ≡ false)
both-not true b e = cc
both-not false true e = cc
both-not false false e = (refl, refl)

both : (a b : Bool) → (a && b) ≡ true → (a ≡ true) × (b ≡ true)
both true b e = (refl, e)
both false b e = cc

not-and : (a b : Bool) → (not a && b) ≡ true → (a ≡ false) × (b ≡ true)
not-and true b e = cc
not-and false b e = (refl, e)

-- an event that the history refuses is refused for a cause that a seat tells, whatever its mark and the entries of others are
pub plain-reason : (limit : ℕ) (h : List Entry) (who : ℕ) (event : Event) (fault : StepFault) (mark : Option ℕ) (others : Option (List Entry)) → refused_by h limit who event ≡ Some fault
    → IsPlain fault × Refuses crowded_by parting_by fault (record { number = who; limit = limit; mark = mark; seen = h; others = others }) event
plain-reason limit h who event fault mark others e =
    chain (λ f. IsPlain f × Refuses crowded_by parting_by f (record { number = who; limit = limit; mark = mark; seen = h; others = others }) event) who
    (not (is_join event) && not (is_here (presence_from who Away h))) (is_join event && has_joined who h) (not (is_leave event) && nat_le limit (length h)) (is_join event && is_session_full (run h)) fault
    (λ a. let s = both-not (is_join event) (is_here (presence_from who Away h)) a in (tt, (refl, s.0, s.1)))
    (λ b. let s = both (is_join event) (has_joined who h) b in (tt, (refl, s.0, s.1)))
    (λ c. let s = not-and (is_leave event) (nat_le limit (length h)) c in (tt, (s.0, leb-true limit (length h) s.1)))
    (λ d. (tt, both (is_join event) (is_session_full (run h)) d)) e

-- a mark that is set is somewhere
marked-at : (mark : Option ℕ) (count : ℕ) → (at : ℕ) × (marked_by mark count ≡ Some at)
marked-at None count = (count, refl)
marked-at (Some at) count = (at, refl)

module _ (who : ℕ) (event : Event) (x y : HeldEngine) where
  abbrev Why : StepFault → ℕ → Option ℕ → List Entry → Type 0
  Why fault limit mark h = Refuses crowded_by parting_by fault (record { number = who; limit = limit; mark = mark; seen = h; others = Some (others_of who h) }) event

  -- memory may be wanting for the event
  abbrev IsWanting : List Entry → Type 0
  IsWanting h = (is_leave event ≡ false) ⊎ (parting_by h ≡ true)

  plain-why : (limit : ℕ) (h : List Entry) (fault : StepFault) (mark : Option ℕ) → refused_by h limit who event ≡ Some fault → IsPlain fault × Why fault limit mark h
  plain-why limit h fault mark e = plain-reason limit h who event fault mark (Some (others_of who h)) e

  -- what a refusal comes from: want of memory, a mark that was there, or what the history gives
  abbrev Reason : Option ℕ → StepFault → Type 0
  Reason mark f = ((f ≡ NoMemory) × IsWanting x.history) ⊎ (((at : ℕ) × ((f ≡ Broken at) × (mark ≡ Some at))) ⊎ (refused_by x.history x.limit who event ≡ Some f))

  reason : (mark : Option ℕ) (f : StepFault) → IfSome (refused_at mark x.history x.limit who event) (λ due. (faulty f ≡ faulty due) × (y.outside ≡ x.outside))
      → (refused_at mark x.history x.limit who event ≡ None → (f ≡ NoMemory) × IsWanting x.history) → Reason mark f
  reason (Some at) f refused answered = let e : faulty f ≡ faulty (Broken at) = refused.0 in let s : f ≡ Broken at = cc in inr (inl (at, (s, refl)))
  reason None f refused answered = by (refused_by x.history x.limit who event) refl refused answered
    where
      by : (refusal : Option StepFault) → refused_by x.history x.limit who event ≡ refusal → IfSome refusal (λ due. (faulty f ≡ faulty due) × (y.outside ≡ x.outside)) → (refusal ≡ None → (f ≡ NoMemory) × IsWanting x.history) → Reason None f
      by (Some due) e refused answered = let g : faulty f ≡ faulty due = refused.0 in let s : f ≡ due = cc in inr (inr (e ∙ ap (λ k. Some k) (sym s)))
      by None e refused answered = inl (answered refl)

  found : (f : StepFault) → Reason x.mark f → y.mark ≡ marked_after (faulty f) x → Why f x.limit y.mark x.history
  found f r m = ⊎_elim wanting (⊎_elim broken (λ e. (plain-why x.limit x.history f y.mark e).1)) r
    where
      wanting : (f ≡ NoMemory) × IsWanting x.history → Why f x.limit y.mark x.history
      wanting w =
          let at = marked-at x.mark (length x.history) in
          subst (λ k. Why k x.limit y.mark x.history) (sym w.0) (w.1, (at.0, m ∙ ap (λ k. marked_after (faulty k) x) w.0 ∙ at.1))

      broken : (at : ℕ) × ((f ≡ Broken at) × (x.mark ≡ Some at)) → Why f x.limit y.mark x.history
      broken b = subst (λ k. Why k x.limit y.mark x.history) (sym b.1.0) (m ∙ ap (λ k. marked_after (faulty k) x) b.1.0 ∙ b.1.1)

  -- each refusal is told for its cause, as a seat tells it
  pub alone-why : (r : Result Output StepFault) → IfSome (event_refusal x who event) (λ fault. (r ≡ Err fault) × (y.outside ≡ x.outside))
      → (event_refusal x who event ≡ None → IfErr r (λ fault. (fault ≡ NoMemory) × IsWanting x.history))
      → OnErr r (y.history ≡ x.history) → y.mark ≡ marked_after r x → y.limit ≡ x.limit → IfErr r (λ fault. Why fault y.limit y.mark y.history)
  alone-why (Ok o) refused answered same m l = tt
  alone-why (Err f) refused answered same m l =
      subst (λ h. Why f y.limit y.mark h) (sym same) (subst (λ k. Why f k y.mark x.history) (sym l) (found f (reason x.mark f refused answered) m))
