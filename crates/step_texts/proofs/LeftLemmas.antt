-- The texts of a world that a step left for which memory was wanting.
use Rattle.std.proofs.Common.{◌≡◌, ℕ, false, List, [], ◌∷◌, refl, ap, ◌∙◌, inl, inr}
use Rattle.std.specs.Prelude.{◌⊎◌, None}
use Rattle.session_events.specs.declared.event.Event.{Event}
use Rattle.session_events.specs.declared.event.Event.TheVariants.{Join, Key as Struck, Resize, Scroll, Mouse as Pointed, Refresh, Leave}
use Rattle.session_events.specs.declared.event.Answered.{Answered}
use Rattle.kak_world.specs.declared.own.StatusText.TheVariants.{Quiet}
use Rattle.kak_world.specs.Flat.{Flat, joined_by, with_own, with_units, takes_turn, step_ended}
use Rattle.kak_engine.specs.declared.engine.TheConstants.{MAX_UNITS}
use Rattle.kak_engine.specs.Course.{Happened, WasAsked, Began}
use Rattle.kak_engine.specs.Honesty.{Outside}
use Rattle.kak_engine.specs.Recording.{listens}
use Rattle.kak_engine.specs.Wanting.{IsLeftBy, IsWithinTask}
use Rattle.kak_engine.specs.Steps.{begun, step_begun, come, shown_to, course_of, after_event, IsLeftByEvent, IsStepLeft}
use Rattle.step_texts.specs.Texts.{texts_of, HasSameTexts}
use Rattle.step_texts.specs.Makings.{AreTextsWithin}
use Rattle.step_texts.specs.Courses.{AreTextsLeft, AreTextsOfStep}
use Rattle.step_texts.proofs.TextLemmas.{texts-rest, texts-own, texts-corner, texts-joined}
use Rattle.step_texts.proofs.TaskLemmas.{within-task}

-- what happened leaves texts as it leaves worlds
left-texts : (P Q : Flat → Type 0) → ((x : Flat) → P x → Q x) → (course : List Happened) (new : Flat) → IsLeftBy P course new → AreTextsLeft Q course new
left-texts P Q f [] new l = f new l
left-texts P Q f (WasAsked what ∷ later) new l = left-texts P Q f later new l
left-texts P Q f (Began who task flat ∷ later) new l = left-texts (IsWithinTask task who flat) (AreTextsWithin task who flat) (within-task task who flat) later new l

-- a key that begins leaves the texts
pub begun-texts : (who : ℕ) (flat : Flat) → HasSameTexts flat (begun who flat)
begun-texts who flat =
    let quiet : Flat = with_own who (λ o. record o { status = Quiet; info = None; dragging = false; recording = listens o.recording }) flat in
    texts-rest _ (with_units MAX_UNITS quiet) ∙ (texts-rest _ quiet ∙ texts-own who _ flat)

-- so does a step that begins where a client comes or goes, and a client that comes
pub step-texts : (who : ℕ) (flat : Flat) → HasSameTexts flat (step_begun who flat)
step-texts who flat =
    let ended : Flat = step_ended flat in
    texts-rest _ (with_units MAX_UNITS ended) ∙ (texts-rest _ ended ∙ texts-rest _ flat)

pub come-texts : (who : ℕ) (flat : Flat) → HasSameTexts flat (come who flat)
come-texts who flat = step-texts who (joined_by who flat) ∙ texts-joined who flat

at-first : (old first x : Flat) → HasSameTexts old first → (x ≡ old) ⊎ (x ≡ first) → HasSameTexts old x
at-first old first x same (inl e) = ap texts_of e
at-first old first x same (inr e) = ap texts_of e ∙ same

-- as a client is shown
pub shown-texts : (who : ℕ) (flat : Flat) → HasSameTexts flat (shown_to who flat)
shown-texts who flat = texts-corner who _ (takes_turn who flat) ∙ texts-rest _ flat

-- an event in which no task begins leaves them
stood : (who : ℕ) (event : Event) (answers : List Answered) (old new : Flat) → HasSameTexts old new → AreTextsOfStep who event old new
stood who event answers old new same = record { answers = answers; course = []; begins = (course_of who event answers old, refl); left = inl same }

-- an event in which tasks may begin, the first of them in a world with the texts that stood
of-tasks : (who : ℕ) (event : Event) (old first new : Flat) (before now : Outside) (s : IsStepLeft who event old new before now) → HasSameTexts old first →
    (IsLeftByEvent event who s.course old new → IsLeftBy (λ x. (x ≡ old) ⊎ (x ≡ first)) s.course new) → AreTextsOfStep who event old new
of-tasks who event old first new before now s same f = record { answers = s.answers; course = s.course; begins = s.begins; left = by s.left }
  where
    by : IsLeftByEvent event who s.course old new ⊎ ((s.course ≡ course_of who event s.answers old) × (new ≡ after_event who event s.answers old)) →
        AreTextsLeft (HasSameTexts old) s.course new ⊎ HasSameTexts (after_event who event s.answers old) new
    by (inl l) = inl (left-texts (λ x. (x ≡ old) ⊎ (x ≡ first)) (HasSameTexts old) (λ x. at-first old first x same) s.course new (f l))
    by (inr w) = inr (ap texts_of w.1)

-- the whole event happened, or what it left stands
of-whole : (who : ℕ) (event : Event) (old new : Flat) (before now : Outside) (s : IsStepLeft who event old new before now) → (IsLeftByEvent event who s.course old new → HasSameTexts old new) → AreTextsOfStep who event old new
of-whole who event old new before now s f = by s.left
  where
    by : IsLeftByEvent event who s.course old new ⊎ ((s.course ≡ course_of who event s.answers old) × (new ≡ after_event who event s.answers old)) → AreTextsOfStep who event old new
    by (inl l) = stood who event s.answers old new (f l)
    by (inr w) = record { answers = s.answers; course = s.course; begins = s.begins; left = inr (ap texts_of w.1) }

pub left_within : (who : ℕ) (event : Event) (old new : Flat) (before now : Outside) → IsStepLeft who event old new before now → AreTextsOfStep who event old new
left_within who Join old new before now s = of-tasks who Join old (come who old) new before now s (come-texts who old) (λ l. l)
left_within who (Struck key) old new before now s = of-tasks who (Struck key) old (begun who old) new before now s (begun-texts who old) (λ l. l)
left_within who (Resize size) old new before now s = of-whole who (Resize size) old new before now s (λ e. ap texts_of e)
left_within who (Scroll lines) old new before now s = of-whole who (Scroll lines) old new before now s (λ e. ap texts_of e)
left_within who (Pointed mouse) old new before now s = of-whole who (Pointed mouse) old new before now s (λ e. ap texts_of e)
left_within who (Refresh asked) old new before now s = of-whole who (Refresh asked) old new before now s (λ e. ap texts_of e ∙ shown-texts who old)
left_within who Leave old new before now s = of-tasks who Leave old (step_begun who old) new before now s (step-texts who old) (λ l. l)
