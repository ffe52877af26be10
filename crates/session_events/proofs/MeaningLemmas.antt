-- What entries tell their clients.
use Rattle.std.proofs.Common.{◌≡◌, ℕ, false, List, [], ap}
use Rattle.session_events.specs.declared.event.Event.{Event}
use Rattle.session_events.specs.declared.event.Answered.{Answered}
use Rattle.session_events.specs.declared.event.Entry.{Entry}
use Rattle.session_events.specs.Entries.{is_drawing, entry_with}
use Rattle.session_events.specs.Meaning.{Gives, drawn_bytes, told_by, IsMeaning}

-- an event that is no drawing tells its client nothing
pub told-nothing : (g : Gives) (before : List Entry) (who : ℕ) (event : Event) (answers : List Answered) → IsMeaning g → is_drawing event ≡ false → told_by (g before (entry_with who event answers)) ≡ []
told-nothing g before who event answers m d = ap drawn_bytes (m.undrawn before who event answers d)
