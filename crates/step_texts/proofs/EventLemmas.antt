-- The texts go through each event of a client.
use Rattle.std.proofs.Common.{◌≡◌, ℕ, Bool, true, false, List, [], ◌++◌, refl, sym, ap, ◌∙◌, subst}
use Rattle.std.specs.Prelude.{if◌then◌else◌, nat_lt}
use Rattle.key_names.specs.declared.key.Key.{Key}
use Rattle.kak_world.specs.declared.own.Mode.{Mode}
use Rattle.kak_world.specs.declared.own.Mode.TheVariants.{Normal, Insert, Prompt}
use Rattle.kak_world.specs.Flat.{Flat, mode_of, is_client_leaving, takes_turn, step_ended}
use Rattle.kak_world.specs.Events.{faults_of, one_more_fault, fault_counted}
use Rattle.draw_model.specs.Boxes.{with_drawn}
use Rattle.draw_model.specs.Drawings.{gutter_for}
use Rattle.pointer_rows.specs.Scrolling.{scrolled}
use Rattle.session_events.specs.declared.event.Event.{Event}
use Rattle.session_events.specs.declared.event.Event.TheVariants.{Join, Key as Struck, Resize, Scroll, Mouse as Pointed, Refresh, Leave}
use Rattle.session_events.specs.declared.event.Answered.{Answered}
use Rattle.kak_engine.specs.Course.{Task, NotesComing, NotesGoing, Happened}
use Rattle.kak_engine.specs.Doing.{DoingEnd, Fine, Failed, GivenUp, Moment, Outcome, top, Do}
use Rattle.kak_engine.specs.Recording.{recorded}
use Rattle.kak_engine.specs.Steps.{told, step_begun, come, heard_from, coming, going, after_coming, after_going, first_moment, ends_group, group_ended, key_ended, struck, after_key, course_of_key, course_of, shown_to, pointed_by, after_event}
use Rattle.step_texts.specs.Texts.{texts_of, HasSameTexts}
use Rattle.step_texts.specs.Courses.{GoThrough}
use Rattle.step_texts.proofs.TextLemmas.{texts-rest, texts-own, texts-commits, texts-gone}
use Rattle.step_texts.proofs.PointerLemmas.{pointed-texts, scrolled-texts}
use Rattle.step_texts.proofs.LeftLemmas.{begun-texts, step-texts, come-texts, shown-texts}
use Rattle.step_texts.proofs.CourseLemmas.{Texts, Goes, goes-key, goes-settled, goes-do}

-- what comes behind the tasks of a step leaves the texts
kept-texts : (seen : Bool) (who : ℕ) (text : List ℕ) (flat : Flat) → HasSameTexts flat (if seen then flat else fault_counted who text flat)
kept-texts true who text flat = refl
kept-texts false who text flat = texts-own who _ (one_more_fault flat) ∙ texts-rest _ flat

told-texts : (who : ℕ) (e : DoingEnd) (flat : Flat) → HasSameTexts flat (told who e flat)
told-texts who Fine flat = refl
told-texts who (Failed fault) flat = kept-texts (nat_lt fault.at (faults_of flat)) who fault.text flat
told-texts who (GivenUp text) flat = texts-own who _ flat

group-texts : (mode : Mode) (who : ℕ) (flat : Flat) → HasSameTexts flat (ends_group mode who flat)
group-texts Insert who flat = refl
group-texts Normal who flat = texts-commits who flat
group-texts Prompt who flat = texts-commits who flat

ended-texts : (who : ℕ) (key : Key) (o : Outcome) → HasSameTexts o.moment.world (key_ended who key o)
ended-texts who key o =
    let kept : Flat = recorded who key o.moment.world in
    let said : Flat = told who o.end kept in
    texts-rest _ (group_ended who said) ∙ (group-texts (mode_of who said) who said ∙ (told-texts who o.end kept ∙ texts-own who _ o.moment.world))

-- a step in which tasks may begin, the first of them at a moment at which nothing has happened yet
through-step : (first last : Moment) (old new : Flat) → Goes first last → first.course ≡ [] → HasSameTexts old first.world → HasSameTexts last.world new → GoThrough (texts_of old) last.course (texts_of new)
through-step first last old new g e same ended =
    subst (λ (c : List Happened). GoThrough (texts_of old) c (texts_of new)) (sym (g.grows ∙ ap (λ (q : List Happened). q ++ g.course) e))
    (through-last (texts_of old) (texts_of last.world) (texts_of new) g.course
    (through-first (texts_of first.world) (texts_of old) (texts_of last.world) g.course same g.through) ended)
  where
    through-first : (a b c : Texts) (course : List Happened) → a ≡ b → GoThrough a course c → GoThrough b course c
    through-first a b c course e g = subst (λ (x : Texts). GoThrough x course c) e g

    through-last : (a b c : Texts) (course : List Happened) → GoThrough a course b → c ≡ b → GoThrough a course c
    through-last a b c course g e = subst (λ (x : Texts). GoThrough a course x) (sym e) g

-- a key, as long as its client may strike keys
by-leaving : (v : Bool) (who : ℕ) (key : Key) (answers : List Answered) (flat : Flat) → GoThrough (texts_of flat) (if v then [] else (struck who key answers flat).moment.course) (texts_of (if v then flat else key_ended who key (struck who key answers flat)))
by-leaving true who key answers flat = refl
by-leaving false who key answers flat =
    let first : Moment = first_moment who flat answers in
    let o : Outcome = struck who key answers flat in
    through-step first o.moment flat (key_ended who key o) (goes-key Do goes-do (top who) true key first) refl (begun-texts who flat) (ended-texts who key o)

key-through : (who : ℕ) (key : Key) (answers : List Answered) (flat : Flat) → GoThrough (texts_of flat) (course_of_key who key answers flat) (texts_of (after_key who key answers flat))
unfolding course_of_key after_key
key-through who key answers flat = by-leaving (is_client_leaving who flat) who key answers flat

-- a step in which hooks are to hear something of a client
heard-through : (who : ℕ) (task : Task) (answers : List Answered) (old begin new : Flat) → HasSameTexts old begin → HasSameTexts (heard_from who task begin answers).moment.world new →
    GoThrough (texts_of old) (heard_from who task begin answers).moment.course (texts_of new)
heard-through who task answers old begin new same ended =
    let first : Moment = record { world = begin; answers = answers; fit = true; course = [] } in
    through-step first (heard_from who task begin answers).moment old new (goes-settled Do goes-do (top who) task first) refl same ended

coming-through : (who : ℕ) (answers : List Answered) (flat : Flat) → GoThrough (texts_of flat) (coming who answers flat).moment.course (texts_of (after_coming who answers flat))
unfolding coming after_coming
coming-through who answers flat =
    let o : Outcome = heard_from who NotesComing (come who flat) answers in
    let said : Flat = told who o.end o.moment.world in
    heard-through who NotesComing answers flat (come who flat) (step_ended said) (come-texts who flat) (texts-rest _ said ∙ told-texts who o.end o.moment.world)

going-through : (who : ℕ) (answers : List Answered) (flat : Flat) → GoThrough (texts_of flat) (going who answers flat).moment.course (texts_of (after_going who answers flat))
unfolding going after_going
going-through who answers flat =
    let o : Outcome = heard_from who NotesGoing (step_begun who flat) answers in
    heard-through who NotesGoing answers flat (step_begun who flat) (after_going who answers flat) (step-texts who flat) (texts-gone who (step_ended o.moment.world) ∙ texts-rest _ o.moment.world)

-- events in which no task begins
turn-texts : (who : ℕ) (f : Flat → Flat) (flat : Flat) → ((x : Flat) → HasSameTexts x (f x)) → HasSameTexts flat (step_ended (f (takes_turn who flat)))
turn-texts who f flat same =
    let turned : Flat = takes_turn who flat in
    texts-rest _ (f turned) ∙ (same turned ∙ texts-rest _ flat)

drawn-texts : (who : ℕ) (flat : Flat) → HasSameTexts flat (step_ended (with_drawn who (shown_to who flat)))
drawn-texts who flat =
    let shown : Flat = shown_to who flat in
    texts-rest _ (with_drawn who shown) ∙ (texts-own who _ shown ∙ shown-texts who flat)

pub goes_through : (who : ℕ) (event : Event) (answers : List Answered) (flat : Flat) → GoThrough (texts_of flat) (course_of who event answers flat) (texts_of (after_event who event answers flat))
goes_through who Join answers flat = coming-through who answers flat
goes_through who (Struck key) answers flat = key-through who key answers flat
goes_through who (Resize size) answers flat = texts-own who _ flat
goes_through who (Scroll lines) answers flat = turn-texts who (scrolled who lines) flat (scrolled-texts who lines)
goes_through who (Pointed mouse) answers flat = turn-texts who (pointed_by who mouse) flat (λ x. pointed-texts who (gutter_for who x) mouse x)
goes_through who (Refresh asked) answers flat = drawn-texts who flat
goes_through who Leave answers flat = going-through who answers flat
