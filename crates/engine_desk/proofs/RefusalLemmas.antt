-- What a refusal at a desk is to the seat of its client.
use Rattle.std.proofs.Common.{◌≡◌, ◌⊎◌, true, ⊎_elim, inl, inr, ℕ, Bool, false, List, length, refl, sym, ap, ◌∙◌, subst, Err}
use Rattle.std.specs.Prelude.{IfSome, Some, None}
use Rattle.std.specs.declared.option.Option.{Option}
use Rattle.session_desk.specs.Histories.{Met}
use Rattle.session_desk.specs.Tokens.{Home, DeskPlace, IsOf, PassView, IsSamePass, PassRefuses}
use Rattle.session_desk.proofs.HistoryLemmas.{met_through}
use Rattle.session_events.specs.declared.event.Event.{Event}
use Rattle.session_events.specs.declared.event.Entry.{Entry}
use Rattle.session_events.specs.declared.event.Output.{Output}
use Rattle.session_events.specs.declared.fault.StepFault.{StepFault}
use Rattle.session_events.specs.declared.fault.StepFault.TheVariants.{Broken, NoClient, Joined, HistoryFull, Full, NoMemory}
use Rattle.session_events.specs.Entries.{is_leave}
use Rattle.session_events.specs.Seats.{Refuses as SeatRefuses, StaysUnbroken}
use Rattle.kak_engine.specs.Held.{refused_at, refused_by}
use Rattle.kak_engine.specs.Steps.{crowded_by, parting_by}
use Rattle.kak_engine.proofs.WhyLemmas.{IsPlain, plain-reason}
use Rattle.engine_desk.specs.Sharing.{Frame, MoveAnswers, marked_behind}
use Rattle.engine_desk.specs.Sitting.{IsAtDesk, told_behind}
use Rattle.engine_desk.proofs.SeatLemmas.{whose, begins-refused}

-- What a refusal is to the client.
pub record IsRefusal (limit : ℕ) (h : List Entry) (who : ℕ) (event : Event) (fault : StepFault) (told told' mark' : Option ℕ) : Type 0 where
  pub why : SeatRefuses crowded_by parting_by fault (record { number = who; limit = limit; mark = told'; seen = h; others = None }) event
  pub met : Met told' mark'
  pub whole : StaysUnbroken {A = Output} (Err fault) (record { number = who; limit = limit; mark = told'; seen = h; others = None })
  pub marked : IfSome told (λ at. told' ≡ Some at)
  pub broken : IfSome told (λ at. fault ≡ Broken at)

module _ (limit : ℕ) (h : List Entry) (who : ℕ) (event : Event) where
  abbrev Behind : StepFault → Option ℕ → Option ℕ → Type 0
  Behind fault told mark' = IsRefusal limit h who event fault told (told_behind fault told (length h)) mark'

  -- memory may be wanting for the event
  abbrev IsWanting : Type 0
  IsWanting = (is_leave event ≡ false) ⊎ (parting_by h ≡ true)

  -- a session that was broken
  behind-broken : (at : ℕ) (told mark' : Option ℕ) → Met told (Some at) → mark' ≡ Some at → Behind (Broken at) told mark'
  behind-broken at told mark' met m = record { why = refl; met = inr (sym m); whole = tt; marked = by told met; broken = same told met }
    where
      by : (told : Option ℕ) → Met told (Some at) → IfSome told (λ k. Some at ≡ Some k)
      by None met = tt
      by (Some k) met = ⊎_elim (λ (e : Some k ≡ None). cc) (λ (e : Some k ≡ Some at). sym e) met

      same : (told : Option ℕ) → Met told (Some at) → IfSome told (λ k. Broken at ≡ Broken k)
      same None met = tt
      same (Some k) met = ⊎_elim (λ (e : Some k ≡ None). cc) (λ (e : Some k ≡ Some at). let s : k ≡ at = cc in ap Broken (sym s)) met

  -- one that broke
  behind-wanting : (told mark' : Option ℕ) → told ≡ None → IsWanting → mark' ≡ Some (length h) → Behind NoMemory told mark'
  behind-wanting None mark' e l m = record { why = (l, (length h, refl)); met = inr (sym m); whole = tt; marked = tt; broken = tt }
  behind-wanting (Some k) mark' e l m = cc

  -- one that is whole
  behind-plain : (fault : StepFault) (told mark' : Option ℕ) → told ≡ None → IsPlain fault × SeatRefuses crowded_by parting_by fault (record { number = who; limit = limit; mark = None; seen = h; others = None }) event → Behind fault told mark'
  behind-plain (NoClient k) None mark' e p = record { why = p.1; met = inl refl; whole = refl; marked = tt; broken = tt }
  behind-plain (Joined k) None mark' e p = record { why = p.1; met = inl refl; whole = refl; marked = tt; broken = tt }
  behind-plain HistoryFull None mark' e p = record { why = p.1; met = inl refl; whole = refl; marked = tt; broken = tt }
  behind-plain Full None mark' e p = record { why = p.1; met = inl refl; whole = refl; marked = tt; broken = tt }
  behind-plain (Broken at) None mark' e p = absurd p.0
  behind-plain NoMemory None mark' e p = absurd p.0
  behind-plain fault (Some k) mark' e p = cc

  none-met : (told : Option ℕ) → Met told None → told ≡ None
  none-met told met = ⊎_elim (λ (e : told ≡ None). e) (λ (e : told ≡ None). e) met

  whole-refusal : (refusal : Option StepFault) → refused_by h limit who event ≡ refusal → (fault : StepFault) (told mark' : Option ℕ) → told ≡ None → IfSome refusal (λ due. fault ≡ due) → (refusal ≡ None → (fault ≡ NoMemory) × IsWanting)
      → mark' ≡ marked_behind fault None (length h) → Behind fault told mark'
  whole-refusal (Some due) r fault told mark' e why wanting m = behind-plain fault told mark' e (plain-reason limit h who event fault None None (r ∙ ap Some (sym why)))
  whole-refusal None r fault told mark' e why wanting m =
      let w = wanting refl in subst (λ (f : StepFault). Behind f told mark') (sym w.0) (behind-wanting told mark' e w.1 (m ∙ ap (λ (f : StepFault). marked_behind f None (length h)) w.0))

  -- every refusal, by the mark that the engine had
  any-refusal : (mark : Option ℕ) (fault : StepFault) (told mark' : Option ℕ) → Met told mark → IfSome (refused_at mark h limit who event) (λ due. fault ≡ due) → (refused_at mark h limit who event ≡ None → (fault ≡ NoMemory) × IsWanting)
      → mark' ≡ marked_behind fault mark (length h) → Behind fault told mark'
  any-refusal (Some at) fault told mark' met why wanting m =
      subst (λ (f : StepFault). Behind f told mark') (sym why) (behind-broken at told mark' met (m ∙ ap (λ (f : StepFault). marked_behind f (Some at) (length h)) why))
  any-refusal None fault told mark' met why wanting m = whole-refusal (refused_by h limit who event) refl fault told mark' (none-met told met) why wanting m

-- what a refusal at a desk is to the client, which had met no mark but the desk's
pub seat-refused : (home : Home Frame) (b a : PassView Entry Frame) (event : Event) (fault : StepFault) (told told' : Option ℕ) (count : ℕ) → PassRefuses whose (MoveAnswers home.frame) b a event fault → Met told b.mark
    → count ≡ length a.seen → told' ≡ told_behind fault told count → IsRefusal home.frame.limit a.seen b.number event fault told told' a.mark
seat-refused home b a event fault told told' count s met c t =
    subst (λ (o : Option ℕ). IsRefusal home.frame.limit a.seen b.number event fault told o a.mark) (sym (t ∙ ap (told_behind fault told) c))
    (any-refusal home.frame.limit a.seen b.number event s.marked fault told a.mark (met_through told b.mark s.marked met s.met) s.answer.why s.answer.wanting s.answer.mark_is)

-- behind a move that was refused, the pass is of the desk still, and it isn't known what its client has missed
pub desk-refused : (home : Home Frame) (b a : PassView Entry Frame) (first : List Entry) (told told' : Option ℕ) (event : Event) (fault : StepFault) (count : ℕ) {old : Option Bool} → IsAtDesk home b first told old → IsSamePass b a → PassRefuses whose (MoveAnswers home.frame) b a event fault
    → count ≡ length a.seen → told' ≡ told_behind fault told count → IsAtDesk home a first told' None
desk-refused home b a first told told' event fault count at same s c t = record {
  own = subst (λ (p : DeskPlace Frame). IsOf p home) (sym same.place) at.own;
  met = (seat-refused home b a event fault told told' count s at.met c t).met;
  known = tt;
  begins = begins-refused home b a first event fault s at.begins;
}
