-- The texts of a step, from one of its tasks to the next, and where it was left.
use Rattle.std.specs.Prelude.{◌≡◌, ◌⊎◌, ℕ, List, [], ◌∷◌}
use Rattle.std.specs.declared.option.Option.{Option}
use Rattle.session_turns.specs.Growth.{Begins}
use Rattle.session_events.specs.declared.event.Event.{Event}
use Rattle.session_events.specs.declared.event.Answered.{Answered}
use Rattle.kak_world.specs.Flat.{Flat}
use Rattle.kak_engine.specs.Course.{Happened, WasAsked, Began}
use Rattle.kak_engine.specs.Doing.{task_row}
use Rattle.kak_engine.specs.Steps.{course_of, after_event}
use Rattle.step_texts.specs.Texts.{texts_of, HasSameTexts}
use Rattle.step_texts.specs.Makings.{AreTextsWithin}

-- The texts go through what happened: each task begins with those that stood, or that the task before it left, and the last ones are
-- those that the last task left.
abbrev pub GoThrough : List (Option (List ℕ)) → List Happened → List (Option (List ℕ)) → Type 0
GoThrough first [] last = last ≡ first
GoThrough first (WasAsked what ∷ later) last = GoThrough first later last
GoThrough first (Began who task flat ∷ later) last = (texts_of flat ≡ first) × GoThrough (texts_of (task_row task who flat).world) later last

-- the texts of a world are left so by what happened: they are within the last task that began; where none did, they stood before
abbrev pub AreTextsLeft : (Flat → Type 0) → List Happened → Flat → Type 0
AreTextsLeft stood [] new = stood new
AreTextsLeft stood (WasAsked what ∷ later) new = AreTextsLeft stood later new
AreTextsLeft stood (Began who task flat ∷ later) new = AreTextsLeft (AreTextsWithin task who flat) later new

-- Memory was wanting in an event of a client: what happened in it is a beginning of what happens in the event with the answers
-- that came, and the texts are left so by it, or they are those behind the event.
pub record AreTextsOfStep (who : ℕ) (event : Event) (old new : Flat) : Type 0 where
  pub answers : List Answered
  pub course : List Happened
  pub begins : Begins (course_of who event answers old) course
  pub left : AreTextsLeft (HasSameTexts old) course new ⊎ HasSameTexts (after_event who event answers old) new
