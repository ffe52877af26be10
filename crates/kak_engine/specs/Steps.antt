-- The steps of a session: what each entry of its history does to the world, and what it gives its client.
use Rattle.std.specs.Prelude.{◌≡◌, ◌⊎◌, ℕ, ℤ, Bool, true, false, not, ◌&&◌, nat_le, if◌then◌else◌, List, [], ◌∷◌, ◌++◌, length, Some, None, ⊤}
use Rattle.std.specs.declared.option.Option.{Option}
use Rattle.kak_files.specs.Exchanges.{Exchange}
use Rattle.session_turns.specs.Growth.{Begins}
use Rattle.key_names.specs.declared.key.Key.{Key}
use Rattle.mouse_events.specs.declared.mouse.Mouse.{Mouse}
use Rattle.kak_world.specs.declared.own.Mode.{Mode}
use Rattle.kak_world.specs.declared.own.Mode.TheVariants.{Normal, Insert, Prompt}
use Rattle.kak_world.specs.declared.own.StatusText.TheVariants.{Quiet}
use Rattle.kak_world.specs.declared.world.TheConstants.{MAX_CLIENTS}
use Rattle.kak_world.specs.Flat.{Flat, opening, joined_by, left_by_client, mode_of, is_client_leaving, with_own, with_units, takes_turn, step_ended}
use Rattle.kak_world.specs.Changing.{commits}
use Rattle.kak_world.specs.Events.{has_hooks, refused, fault_kept}
use Rattle.window_view.specs.Sizes.{Dimensions}
use Rattle.pointer_rows.specs.Pointing.{pointed}
use Rattle.pointer_rows.specs.Scrolling.{scrolled}
use Rattle.draw_model.specs.Boxes.{with_drawn}
use Rattle.draw_model.specs.Drawings.{drawing_of, after_following, gutter_for}
use Rattle.kak_engine.specs.declared.engine.TheConstants.{MAX_UNITS}
use Rattle.session_events.specs.declared.event.Event.{Event}
use Rattle.session_events.specs.declared.event.Event.TheVariants.{Join, Key as Struck, Resize, Scroll, Mouse as Pointed, Refresh, Leave}
use Rattle.session_events.specs.declared.event.Answered.{Answered}
use Rattle.session_events.specs.declared.event.Entry.{Entry}
use Rattle.session_events.specs.declared.event.Output.{Output}
use Rattle.session_events.specs.Meaning.{no_output}
use Rattle.kak_engine.specs.Asking.{Asked, files_in}
use Rattle.kak_engine.specs.Course.{Task, NotesComing, NotesGoing, Happened, asks_in}
use Rattle.kak_engine.specs.Wanting.{IsLeftBy}
use Rattle.kak_engine.specs.Doing.{DoingEnd, Fine, Failed, GivenUp, Moment, Outcome, task_settled, play_key, Do, top}
use Rattle.kak_engine.specs.Recording.{listens, recorded}
use Rattle.kak_engine.specs.Honesty.{Outside, IsHonest}

-- a client's status behind a step: that it was given up, or the last error; one of a hook that arose behind the error was told already
abbrev pub told : ℕ → DoingEnd → Flat → Flat
told who Fine flat = flat
told who (Failed fault) flat = fault_kept who fault flat
told who (GivenUp text) flat = refused who text flat

-- the world when a key begins: its client has no status and no box, is dragging no more, and what it records takes the key; the step
-- has all of its units, and it is the client's turn
abbrev pub begun : ℕ → Flat → Flat
begun who flat =
    takes_turn who (with_units MAX_UNITS (with_own who (λ o. record o { status = Quiet; info = None; dragging = false; recording = listens o.recording }) flat))

-- the moment when a key begins
abbrev pub first_moment : ℕ → Flat → List Answered → Moment
first_moment who flat answers = record { world = begun who flat; answers = answers; fit = true; course = [] }

-- what is pending of a client whose key ends in a mode: outside insert mode it is committed
abbrev pub ends_group : Mode → ℕ → Flat → Flat
ends_group Insert who flat = flat
ends_group Normal who flat = commits who flat
ends_group Prompt who flat = commits who flat

abbrev pub group_ended : ℕ → Flat → Flat
group_ended who flat = ends_group (mode_of who flat) who flat

-- the world when a key ends, and the step with it: it is recorded as it was struck
abbrev pub key_ended : ℕ → Key → Outcome → Flat
key_ended who key o = step_ended (group_ended who (told who o.end (recorded who key o.moment.world)))

-- the run of a key that its client's step began, or of those that it is mapped to
abbrev pub struck : ℕ → Key → List Answered → Flat → Outcome
struck who key answers flat = play_key Do (top who) true key (first_moment who flat answers)

-- the world after a key; once a client was granted to leave, its keys do nothing
unfoldable pub after_key : ℕ → Key → List Answered → Flat → Flat
after_key who key answers flat =
    if is_client_leaving who flat then flat else key_ended who key (struck who key answers flat)

-- what happens in a key, in order
unfoldable pub course_of_key : ℕ → Key → List Answered → Flat → List Happened
course_of_key who key answers flat =
    if is_client_leaving who flat then [] else (struck who key answers flat).moment.course

-- the world when the step of a client begins that comes or goes: it has all of its units, and it is the client's turn
abbrev pub step_begun : ℕ → Flat → Flat
step_begun who flat = takes_turn who (with_units MAX_UNITS (step_ended flat))

-- a client that came, and whose hooks are to be run; and one that is about to go
abbrev pub come : ℕ → Flat → Flat
come who flat = step_begun who (joined_by who flat)

-- a step in which hooks are to hear something of a client, and are run
abbrev pub heard_from : ℕ → Task → Flat → List Answered → Outcome
heard_from who task flat answers = task_settled Do (top who) task (record { world = flat; answers = answers; fit = true; course = [] })

unfoldable pub coming : ℕ → List Answered → Flat → Outcome
coming who answers flat = heard_from who NotesComing (come who flat) answers

unfoldable pub going : ℕ → List Answered → Flat → Outcome
going who answers flat = heard_from who NotesGoing (step_begun who flat) answers

-- the world after a client came, behind the hooks of that; nothing of what they changed is committed
unfoldable pub after_coming : ℕ → List Answered → Flat → Flat
after_coming who answers flat = step_ended (told who (coming who answers flat).end (coming who answers flat).moment.world)

-- and after it went, behind the hooks of that, however they ended
unfoldable pub after_going : ℕ → List Answered → Flat → Flat
after_going who answers flat = left_by_client who (step_ended (going who answers flat).moment.world)

-- what happens in an event, in order; in none but a key, a coming and a going the outside is asked for anything, or a task begins
abbrev pub course_of : ℕ → Event → List Answered → Flat → List Happened
course_of who Join answers flat = (coming who answers flat).moment.course
course_of who (Struck key) answers flat = course_of_key who key answers flat
course_of who Leave answers flat = (going who answers flat).moment.course
course_of who _ answers flat = []

-- what the outside is asked for by an event, in order
abbrev pub asked_by : ℕ → Event → List Answered → Flat → List Asked
asked_by who event answers flat = asks_in (course_of who event answers flat)

-- the world as a client is shown it: it is the client's turn, and its window has followed its cursor
abbrev pub shown_to : ℕ → Flat → Flat
shown_to who flat = after_following who (takes_turn who flat)

-- a client was drawn, and the step is over
abbrev pub noted_drawn : ℕ → Flat → Flat
noted_drawn who flat = step_ended (with_drawn who flat)

-- the world in which a client's windows have so many rows and columns; where they stand stays
abbrev pub resized : ℕ → Dimensions → Flat → Flat
resized who size flat = with_own who (λ o. record o { size = size }) flat

-- the world behind scrolling in a client's window: it is the client's turn meanwhile. No unit is there to be taken, and the
-- status, the box, the count and what is pending stay
abbrev pub after_scroll : ℕ → ℤ → Flat → Flat
after_scroll who lines flat = step_ended (scrolled who lines (takes_turn who flat))

-- what a mouse did over a client's window, behind the cells of numbers that stand there before the text
abbrev pub pointed_by : ℕ → Mouse → Flat → Flat
pointed_by who mouse flat = pointed who (gutter_for who flat) mouse flat

-- the world behind that, in the same way
abbrev pub after_mouse : ℕ → Mouse → Flat → Flat
after_mouse who mouse flat = step_ended (pointed_by who mouse (takes_turn who flat))

-- the world after an event of a client
abbrev pub after_event : ℕ → Event → List Answered → Flat → Flat
after_event who Join answers flat = after_coming who answers flat
after_event who (Struck key) answers flat = after_key who key answers flat
after_event who (Resize size) answers flat = resized who size flat
after_event who (Scroll lines) answers flat = after_scroll who lines flat
after_event who (Pointed mouse) answers flat = after_mouse who mouse flat
after_event who (Refresh asked) answers flat = noted_drawn who (shown_to who flat)
after_event who Leave answers flat = after_going who answers flat

-- whether a client is granted to leave by a key, by which it wasn't before
abbrev pub may_leave_by : ℕ → Key → List Answered → Flat → Bool
may_leave_by who key answers flat = is_client_leaving who (after_key who key answers flat) && not (is_client_leaving who flat)

-- what an event gives its client: a drawing where it is a refresh, and whether the client may leave from now on; the hooks of its going
-- grant nothing
abbrev pub output_of : ℕ → Event → List Answered → Flat → Output
output_of who Join answers flat = record no_output { leaving = is_client_leaving who (after_coming who answers flat) }
output_of who (Struck key) answers flat = record no_output { leaving = may_leave_by who key answers flat }
output_of who (Resize size) answers flat = no_output
output_of who (Scroll lines) answers flat = no_output
output_of who (Pointed mouse) answers flat = no_output
output_of who (Refresh asked) answers flat = record no_output { drawing = Some (drawing_of who (shown_to who flat)) }
output_of who Leave answers flat = no_output

abbrev pub after_entry : Entry → Flat → Flat
after_entry entry flat = after_event entry.who entry.event entry.answers flat

-- the world after the entries of a history
abbrev pub run_from : Flat → List Entry → Flat
run_from flat [] = flat
run_from flat (entry ∷ entries) = run_from (after_entry entry flat) entries

abbrev pub run : List Entry → Flat
run history = run_from opening history

-- what the outside is asked for by the entries of a history, in order
abbrev pub asked_from : Flat → List Entry → List Asked
asked_from flat [] = []
asked_from flat (entry ∷ entries) = asked_by entry.who entry.event entry.answers flat ++ asked_from (after_entry entry flat) entries

abbrev pub asked_in : List Entry → List Asked
asked_in history = asked_from opening history

-- what is exchanged with the files by them
abbrev pub exchanges : List Entry → List Exchange
exchanges history = files_in (asked_in history)

-- what the outside answered in the entries of a history, in order
abbrev pub answers_in : List Entry → List Answered
answers_in [] = []
answers_in (entry ∷ entries) = entry.answers ++ answers_in entries

-- whether no further client may join
abbrev pub is_session_full : Flat → Bool
is_session_full flat = nat_le MAX_CLIENTS (length flat.clients)

-- What the outside answered is what it was asked for: no answer is left, and each was of the kind that was asked for.
pub record AreUsed (m : Moment) : Type 0 where
  pub all : m.answers ≡ []
  pub fit : m.fit ≡ true

-- the same of a key, by whether its client was granted to leave, whose keys ask for nothing
abbrev pub AreAskedByKey : Bool → ℕ → Key → List Answered → Flat → Type 0
AreAskedByKey true who key answers flat = answers ≡ []
AreAskedByKey false who key answers flat = AreUsed (struck who key answers flat).moment

-- the same of an event; nothing but a key, a coming and a going asks the outside for anything
abbrev pub AreAskedFor : ℕ → Event → List Answered → Flat → Type 0
AreAskedFor who Join answers flat = AreUsed (coming who answers flat).moment
AreAskedFor who Leave answers flat = AreUsed (going who answers flat).moment
AreAskedFor who (Struck key) answers flat = AreAskedByKey (is_client_leaving who flat) who key answers flat
AreAskedFor who _ answers flat = answers ≡ []

-- the same of each entry of a history, on the world that the entries before it lead to
abbrev pub AllAskedFrom : Flat → List Entry → Type 0
AllAskedFrom flat [] = ⊤
AllAskedFrom flat (entry ∷ entries) = AreAskedFor entry.who entry.event entry.answers flat × AllAskedFrom (after_entry entry flat) entries

abbrev pub AllAsked : List Entry → Type 0
AllAsked history = AllAskedFrom opening history

-- what an entry gives its client, behind the entries before it
abbrev pub given_by : List Entry → Entry → Output
given_by before entry = output_of entry.who entry.event entry.answers (run before)

-- whether hooks may be run where a client goes, behind some entries: whether any hook is held
abbrev pub parting_by : List Entry → Bool
parting_by history = has_hooks (run history)

-- whether no further client may come, behind some entries
abbrev pub crowded_by : List Entry → Bool
crowded_by history = is_session_full (run history)

-- An event of a client was begun, and memory was wanting: what the outside was asked for in it is a beginning of what the
-- event asks for with the answers that came, and the outside was honest in it.
pub record IsStepCutShort (who : ℕ) (event : Event) (flat : Flat) (before now : Outside) : Type 0 where
  pub answers : List Answered
  pub asked : List Asked
  pub begins : Begins (asked_by who event answers flat) asked
  pub honest : IsHonest answers asked before now

-- the world is left so by an event in which this happened and that has no entry
abbrev pub IsLeftByEvent : Event → ℕ → List Happened → Flat → Flat → Type 0
IsLeftByEvent (Struck key) who course old new = IsLeftBy (λ x. (x ≡ old) ⊎ (x ≡ begun who old)) course new
IsLeftByEvent Join who course old new = IsLeftBy (λ x. (x ≡ old) ⊎ (x ≡ come who old)) course new
IsLeftByEvent Leave who course old new = IsLeftBy (λ x. (x ≡ old) ⊎ (x ≡ step_begun who old)) course new
IsLeftByEvent (Refresh asked) who course old new = new ≡ shown_to who old
IsLeftByEvent _ who course old new = new ≡ old

-- An event of a client was begun, and memory was wanting: what happened in it is a beginning of what happens in the event with
-- the answers that came, and the outside was honest in that. The world is left so by it, or it is the one after the event, when
-- all of it happened.
pub record IsStepLeft (who : ℕ) (event : Event) (old new : Flat) (before now : Outside) : Type 0 where
  pub answers : List Answered
  pub course : List Happened
  pub begins : Begins (course_of who event answers old) course
  pub honest : IsHonest answers (asks_in course) before now
  pub left : IsLeftByEvent event who course old new ⊎ ((course ≡ course_of who event answers old) × (new ≡ after_event who event answers old))
