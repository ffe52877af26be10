-- Laws of the texts of a step, each proved as the contract of a function of `laws`.
use Rattle.std.specs.Prelude.{ℕ, List}
use Rattle.session_events.specs.declared.event.Event.{Event}
use Rattle.session_events.specs.declared.event.Answered.{Answered}
use Rattle.kak_world.specs.Flat.{Flat}
use Rattle.kak_engine.specs.Honesty.{Outside}
use Rattle.kak_engine.specs.Steps.{IsStepLeft, course_of, after_event}
use Rattle.step_texts.specs.Texts.{texts_of}
use Rattle.step_texts.specs.Courses.{GoThrough, AreTextsOfStep}

-- where memory was wanting in an event, the texts of the world that it left are texts of that step
abbrev pub TextsAreLeftWithin : Type 0
TextsAreLeftWithin = (who : ℕ) (event : Event) (old new : Flat) (before now : Outside) → IsStepLeft who event old new before now → AreTextsOfStep who event old new

-- the texts go through what happens in an event, from those before it to those behind it
abbrev pub TextsGoThrough : Type 0
TextsGoThrough = (who : ℕ) (event : Event) (answers : List Answered) (flat : Flat) → GoThrough (texts_of flat) (course_of who event answers flat) (texts_of (after_event who event answers flat))
