-- What a step of an engine answers, as a move at a desk.
use Rattle.std.proofs.Common.{◌≡◌, ℕ, length, refl, sym, ap, ◌∙◌, Ok, Err}
use Rattle.std.specs.Prelude.{Some, None, IfSome}
use Rattle.std.specs.declared.result.Result.{Result}
use Rattle.std.specs.declared.option.Option.{Option}
use Rattle.session_events.specs.declared.event.Event.{Event}
use Rattle.session_events.specs.declared.event.Output.{Output}
use Rattle.session_events.specs.declared.fault.StepFault.{StepFault}
use Rattle.session_events.specs.declared.fault.StepFault.TheVariants.{Broken, NoClient, Joined, HistoryFull, Full, NoMemory}
use Rattle.kak_engine.specs.Held.{HeldEngine, refused_at, event_refusal, marked_after}
use Rattle.engine_desk.specs.Sharing.{marked_behind}

abbrev taken : Output → Result Output StepFault
taken output = Ok output

module _ (who : ℕ) (event : Event) (x y : HeldEngine) where
  -- nothing refuses an event that was taken
  none-refuses : (output : Output) (refusal : Option StepFault) → IfSome refusal (λ fault. (taken output ≡ Err fault) × (y.outside ≡ x.outside)) → refusal ≡ None
  none-refuses output None refused = refl
  none-refuses output (Some fault) refused = let no : taken output ≡ Err fault = refused.0 in cc

  pub granted : (output : Output) → IfSome (event_refusal x who event) (λ fault. (taken output ≡ Err fault) × (y.outside ≡ x.outside)) → refused_at x.mark x.history x.limit who event ≡ None
  granted output refused = none-refuses output (event_refusal x who event) refused

-- a refusal leaves the mark that an engine's step leaves
pub marks-behind : (x y : HeldEngine) (mark : Option ℕ) (fault : StepFault) (count : ℕ) → y.mark ≡ marked_after (Err fault) x → x.mark ≡ mark → count ≡ length x.history → y.mark ≡ marked_behind fault mark count
marks-behind x y mark fault count m same c = m ∙ by fault ∙ ap (λ (k : Option ℕ). marked_behind fault k (length x.history)) same ∙ ap (marked_behind fault mark) (sym c)
  where
    by : (f : StepFault) → marked_after (Err f) x ≡ marked_behind f x.mark (length x.history)
    by (Broken at) = refl
    by (NoClient k) = refl
    by (Joined k) = refl
    by HistoryFull = refl
    by Full = refl
    by NoMemory = refl
