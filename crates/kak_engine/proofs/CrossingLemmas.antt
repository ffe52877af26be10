-- How a client comes and goes, with the hooks of that.
use Rattle.std.proofs.Common.{◌≡◌, ℕ, Bool, true, false, List, [], ◌++◌, length, refl, sym, ap, ◌∙◌, subst, inl, inr, append-nil}
use Rattle.std.specs.Prelude.{◌⊎◌, ◌∷◌, if◌then◌else◌}
use Rattle.scope_tables.specs.declared.names.HookName.TheVariants.{ClientClose}
use Rattle.scope_tables.specs.Hooks.{is_any}
use Rattle.kak_world.specs.Events.{has_hooks, due_of, with_due, client_event}
use Rattle.kak_world.specs.Flat.{Flat, Scoped, is_joined, joined_by, left_by_client, rest_of, with_rest, with_units, step_ended}
use Rattle.kak_world.proofs.WorldLaws.{joined_rest, scoped_rest}
use Rattle.session_turns.specs.Growth.{Begins}
use Rattle.session_events.specs.declared.event.Event.{Event}
use Rattle.session_events.specs.declared.event.Event.TheVariants.{Join, Leave}
use Rattle.session_events.specs.declared.event.Answered.{Answered}
use Rattle.kak_engine.specs.declared.ending.Ending.{Ending}
use Rattle.kak_engine.specs.declared.engine.TheConstants.{MAX_UNITS}
use Rattle.kak_engine.specs.Course.{Task, NotesComing, NotesGoing, Happened, asks_in}
use Rattle.kak_engine.specs.Doing.{DoingEnd, Fine, Moment, Outcome, in_world, beginning, settle, task_settled, Do, top}
use Rattle.kak_engine.specs.Honesty.{Outside, IsHonest}
use Rattle.kak_engine.specs.Seen.{Does, IsCutShort, end_seen, moment_of, UnderWay, under_way}
use Rattle.kak_engine.specs.Steps.{told, step_begun, come, heard_from, coming, going, after_coming, after_going, after_event, course_of, asked_by, AreUsed, AreAskedFor, IsLeftByEvent, IsStepLeft}
use Rattle.kak_engine.specs.Wanting.{IsLeftBy}
use Rattle.kak_engine.proofs.AskingLaws.{begins-same}
use Rattle.kak_engine.proofs.LeftLemmas.{left-more}

-- a step in which hooks hear something of a client
module _ (who : ℕ) (task : Task) (begin : Flat) (answers : List Answered) (o : Outside) (none : answers ≡ []) where
  abbrev Hears : UnderWay → DoingEnd → Type 0
  Hears new end = Does (λ m. task_settled Do (top who) task m) (under_way begin answers o) new end

  heard-all : (new : UnderWay) (end : DoingEnd) → (d : Hears new end) → new.had ≡ d.used
  heard-all new end d = d.kept ∙ ap (λ (q : List Answered). q ++ d.used) none

  heard-is : (new : UnderWay) (end : DoingEnd) → (d : Hears new end) → heard_from who task begin new.had ≡ record { moment = moment_of d.course [] new.world; end = end }
  heard-is new end d = ap (λ (q : List Answered). task_settled Do (top who) task (moment_of [] q begin)) (heard-all new end d ∙ sym (append-nil d.used)) ∙ d.leads [] []

  -- what happened in it, and what the outside answered
  module _ (run : List Answered → Outcome) (is : (had : List Answered) → run had ≡ heard_from who task begin had) where
    ran : (new : UnderWay) (end : DoingEnd) → (d : Hears new end) → run new.had ≡ record { moment = moment_of d.course [] new.world; end = end }
    ran new end d = is new.had ∙ heard-is new end d

    ran-used : (new : UnderWay) (end : DoingEnd) → Hears new end → AreUsed (run new.had).moment
    ran-used new end d = subst (λ (q : Outcome). AreUsed q.moment) (sym (ran new end d)) (record { all = refl; fit = refl })

    ran-honest : (new : UnderWay) (end : DoingEnd) → Hears new end → IsHonest new.had (asks_in (run new.had).moment.course) o new.outside
    ran-honest new end d =
        subst (λ (q : Outcome). IsHonest new.had (asks_in q.moment.course) o new.outside) (sym (ran new end d))
        (subst (λ (q : List Answered). IsHonest q (asks_in d.course) o new.outside) (sym (heard-all new end d)) d.honest)

    -- one that was cut short, and one behind which memory was wanting
    module _ (event : Event) (old : Flat) (course : (had : List Answered) → course_of who event had old ≡ (run had).moment.course)
        (left : (course : List Happened) (new : Flat) → IsLeftBy (λ x. x ≡ begin) course new → IsLeftByEvent event who course old new) where
      ran-cut : (new : UnderWay) → IsCutShort (λ m. task_settled Do (top who) task m) (under_way begin answers o) new → IsStepLeft who event old new.world o new.outside
      ran-cut new d = record {
        answers = d.used;
        course = d.course;
        begins = subst (λ (q : List Happened). Begins q d.course) (sym (course d.used ∙ ap (λ (q : Outcome). q.moment.course) (is d.used))) (d.begins []);
        honest = d.honest;
        left = inl (left d.course new.world d.left);
      }

      ran-untold : (new : UnderWay) (end : DoingEnd) → Hears new end → IsStepLeft who event old new.world o new.outside
      ran-untold new end d = record {
        answers = new.had;
        course = d.course;
        begins = subst (λ (q : List Happened). Begins q d.course) (sym (course new.had ∙ ap (λ (q : Outcome). q.moment.course) (ran new end d))) (begins-same d.course);
        honest = subst (λ (q : List Answered). IsHonest q (asks_in d.course) o new.outside) (sym (heard-all new end d)) d.honest;
        left = inl (left d.course new.world d.left);
      }

-- a coming
coming-as : (who : ℕ) (old begin : Flat) → begin ≡ come who old → (had : List Answered) → coming who had old ≡ heard_from who NotesComing begin had
unfolding coming
coming-as who old begin b had = ap (λ (f : Flat). heard_from who NotesComing f had) (sym b)

come-left : (who : ℕ) (old begin : Flat) → begin ≡ come who old → (course : List Happened) (new : Flat) → IsLeftBy (λ x. x ≡ begin) course new → IsLeftByEvent Join who course old new
come-left who old begin b course new l = left-more (λ x. x ≡ begin) (λ x. (x ≡ old) ⊎ (x ≡ come who old)) (λ x e. inr (e ∙ b)) course new l

module _ (who : ℕ) (old joined begin : Flat) (j : joined ≡ joined_by who old) (b : begin ≡ step_begun who joined) (answers : List Answered) (o : Outside) (none : answers ≡ []) where
  came : begin ≡ come who old
  came = b ∙ ap (step_begun who) j

  module _ (new : UnderWay) (ending : Ending) (d : Does (λ m. task_settled Do (top who) NotesComing m) (under_way begin answers o) new (end_seen ending)) where
    pub after-come : (said done : Flat) → said ≡ told who (end_seen ending) new.world → done ≡ step_ended said → done ≡ after_coming who new.had old
    unfolding after_coming
    after-come said done t e = e ∙ ap step_ended t ∙ ap (λ (q : Outcome). step_ended (told who q.end q.moment.world)) (sym (ran who NotesComing begin answers o none (λ had. coming who had old) (coming-as who old begin came) new (end_seen ending) d))

    pub asked-come : AreAskedFor who Join new.had old
    asked-come = ran-used who NotesComing begin answers o none (λ had. coming who had old) (coming-as who old begin came) new (end_seen ending) d

    pub honest-come : IsHonest new.had (asked_by who Join new.had old) o new.outside
    honest-come = ran-honest who NotesComing begin answers o none (λ had. coming who had old) (coming-as who old begin came) new (end_seen ending) d

    pub untold-come : IsStepLeft who Join old new.world o new.outside
    untold-come = ran-untold who NotesComing begin answers o none (λ had. coming who had old) (coming-as who old begin came) Join old (λ had. refl) (come-left who old begin came) new (end_seen ending) d

  pub cut-come : (new : UnderWay) → IsCutShort (λ m. task_settled Do (top who) NotesComing m) (under_way begin answers o) new → IsStepLeft who Join old new.world o new.outside
  cut-come new d = ran-cut who NotesComing begin answers o none (λ had. coming who had old) (coming-as who old begin came) Join old (λ had. refl) (come-left who old begin came) new d

-- a going
going-as : (who : ℕ) (old begin : Flat) → begin ≡ step_begun who old → (had : List Answered) → going who had old ≡ heard_from who NotesGoing begin had
unfolding going
going-as who old begin b had = ap (λ (f : Flat). heard_from who NotesGoing f had) (sym b)

go-left : (who : ℕ) (old begin : Flat) → begin ≡ step_begun who old → (course : List Happened) (new : Flat) → IsLeftBy (λ x. x ≡ begin) course new → IsLeftByEvent Leave who course old new
go-left who old begin b course new l = left-more (λ x. x ≡ begin) (λ x. (x ≡ old) ⊎ (x ≡ step_begun who old)) (λ x e. inr (e ∙ b)) course new l

module _ (who : ℕ) (old begin : Flat) (b : begin ≡ step_begun who old) (answers : List Answered) (o : Outside) (none : answers ≡ []) where
  module _ (new : UnderWay) (end : DoingEnd) (d : Does (λ m. task_settled Do (top who) NotesGoing m) (under_way begin answers o) new end) where
    pub after-go : (ended done : Flat) → ended ≡ step_ended new.world → done ≡ left_by_client who ended → done ≡ after_going who new.had old
    unfolding after_going
    after-go ended done e l =
        l ∙ ap (left_by_client who) e
        ∙ ap (λ (q : Outcome). left_by_client who (step_ended q.moment.world)) (sym (ran who NotesGoing begin answers o none (λ had. going who had old) (going-as who old begin b) new end d))

    pub asked-go : AreAskedFor who Leave new.had old
    asked-go = ran-used who NotesGoing begin answers o none (λ had. going who had old) (going-as who old begin b) new end d

    pub honest-go : IsHonest new.had (asked_by who Leave new.had old) o new.outside
    honest-go = ran-honest who NotesGoing begin answers o none (λ had. going who had old) (going-as who old begin b) new end d

  pub cut-go : (new : UnderWay) → IsCutShort (λ m. task_settled Do (top who) NotesGoing m) (under_way begin answers o) new → IsStepLeft who Leave old new.world o new.outside
  cut-go new d = ran-cut who NotesGoing begin answers o none (λ had. going who had old) (going-as who old begin b) Leave old (λ had. refl) (go-left who old begin b) new d

-- what hooks hear as a client goes, by whether any is held
abbrev heard_if : Bool → ℕ → Flat → Outcome
heard_if held who begin =
    settle Do (top who) (in_world (with_due (if held then due_of begin ++ client_event ClientClose who begin ∷ [] else due_of begin) begin) (beginning who NotesGoing (moment_of [] [] begin)))

going-heard : (who : ℕ) (flat : Flat) → going who [] flat ≡ heard_if (has_hooks (step_begun who flat)) who (step_begun who flat)
unfolding going
going-heard who flat = refl

held-begun : (who : ℕ) (flat : Flat) → has_hooks (step_begun who flat) ≡ has_hooks flat
held-begun who flat = ap (λ (s : Scoped). is_any s.tables.hooks) (scoped_rest _ (with_units MAX_UNITS (step_ended flat)) ∙ scoped_rest _ (step_ended flat) ∙ scoped_rest _ flat)

-- Nothing is asked for, and nothing changes but what a step's end changes.
record IsCalm (o : Outcome) (flat : Flat) : Type 0 where
  asked : AreUsed o.moment
  nothing : asks_in o.moment.course ≡ []
  ends : step_ended o.moment.world ≡ step_ended flat

calm-unheard : (who : ℕ) (flat : Flat) → IsCalm (heard_if false who (step_begun who flat)) flat
unfolding rest_of with_rest
calm-unheard who flat = record { asked = record { all = refl; fit = refl }; nothing = refl; ends = refl }

-- so where no hook is held as a client goes
calm-going : (who : ℕ) (flat : Flat) → has_hooks flat ≡ false → IsCalm (going who [] flat) flat
calm-going who flat calm = subst (λ (o : Outcome). IsCalm o flat) (sym (going-heard who flat ∙ ap (λ held. heard_if held who (step_begun who flat)) (held-begun who flat ∙ calm))) (calm-unheard who flat)

pub calm-leads : (who : ℕ) (flat ended done : Flat) → has_hooks flat ≡ false → ended ≡ step_ended flat → done ≡ left_by_client who ended → done ≡ after_event who Leave [] flat
unfolding after_going
calm-leads who flat ended done calm e l = l ∙ ap (left_by_client who) (e ∙ sym (calm-going who flat calm).ends)

pub calm-asked : (who : ℕ) (flat : Flat) → has_hooks flat ≡ false → AreAskedFor who Leave [] flat
calm-asked who flat calm = (calm-going who flat calm).asked

pub calm-none : (who : ℕ) (flat : Flat) → has_hooks flat ≡ false → asked_by who Leave [] flat ≡ []
calm-none who flat calm = (calm-going who flat calm).nothing

-- the clients stay where a step ends
pub ended-count : (flat ended : Flat) → ended ≡ step_ended flat → length ended.clients ≡ length flat.clients
unfolding with_rest
ended-count flat ended e = ap (λ (f : Flat). length f.clients) e

pub ended-joined : (who : ℕ) (flat ended : Flat) → ended ≡ step_ended flat → is_joined who flat ≡ true → is_joined who ended ≡ true
ended-joined who flat ended e j = ap (is_joined who) e ∙ joined_rest who _ flat ∙ j
