-- What the entries of a session are to their clients.
use Rattle.std.specs.Prelude.{◌≡◌, ℕ, Bool, true, false, if◌then◌else◌, List, [], ◌∷◌, None, Some}
use Rattle.std.specs.declared.option.Option.{Option}
use Rattle.drawings.specs.declared.drawing.Drawing.{Drawing}
use Rattle.json_writing.specs.Drawings.{drawing_bytes}
use Rattle.session_turns.specs.Histories.{Answer, Rules}
use Rattle.session_events.specs.declared.event.Event.{Event}
use Rattle.session_events.specs.declared.event.Answered.{Answered}
use Rattle.session_events.specs.declared.event.Entry.{Entry}
use Rattle.session_events.specs.declared.event.Output.{Output}
use Rattle.session_events.specs.declared.kind.Kind.{Kind}
use Rattle.session_events.specs.declared.kind.Kind.TheVariants.{Coming, Doing}
use Rattle.session_events.specs.Entries.{kind_of, is_leave, is_drawing, entry_with}

-- what an entry gives its client, behind the entries before it
abbrev pub Gives : Type 0
Gives = List Entry → Entry → Output

-- what gives a client nothing
abbrev pub no_output : Output
no_output = record { drawing = None; leaving = false }

-- the bytes of a drawing, if there is one
abbrev pub drawn_bytes : Option Drawing → List ℕ
drawn_bytes None = []
drawn_bytes (Some drawing) = drawing_bytes drawing

-- the bytes that a client is sent for an output
abbrev pub told_by : Output → List ℕ
told_by output = drawn_bytes output.drawing

-- what an event's output is to its client
abbrev pub answer_of : Event → Output → Answer Event
answer_of event output = record { event = event; bytes = told_by output; leaving = output.leaving }

-- what an entry is to its client, behind the entries before it; leaving is nothing
abbrev pub entry_answers : Gives → List Entry → Entry → List (Answer Event)
entry_answers gives before entry = if is_leave entry.event then [] else answer_of entry.event (gives before entry) ∷ []

-- what the entries of a session mean
abbrev pub rules : Gives → Rules Entry Event
rules gives = record { maker = λ entry. entry.who; event = λ entry. entry.event; answer = entry_answers gives }

-- whether a client may be let go by an event of some kind
abbrev pub may_let_go : Kind → Bool
may_let_go Coming = true
may_let_go Doing = true
may_let_go _ = false

-- What entries give in any session: only a drawing draws, and a client may be let go where it comes or does something, and
-- only there.
pub record IsMeaning (gives : Gives) : Type 0 where
  pub undrawn : (before : List Entry) (who : ℕ) (event : Event) (answers : List Answered) → is_drawing event ≡ false → (gives before (entry_with who event answers)).drawing ≡ None
  pub stays : (before : List Entry) (who : ℕ) (event : Event) (answers : List Answered) → may_let_go (kind_of event) ≡ false → (gives before (entry_with who event answers)).leaving ≡ false
