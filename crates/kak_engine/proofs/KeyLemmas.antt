-- The calls that run a key make the world after it.
use Rattle.std.proofs.Common.{◌≡◌, ℕ, true, false, List, [], ◌++◌, refl, sym, ap, ◌∙◌, subst, inl, inr, append-nil}
use Rattle.std.specs.Prelude.{◌⊎◌, Bool}
use Rattle.key_names.specs.declared.key.Key.{Key}
use Rattle.kak_world.specs.Flat.{Flat, is_client_leaving, step_ended}
use Rattle.session_turns.specs.Growth.{Begins}
use Rattle.session_events.specs.declared.event.Event.{Event}
use Rattle.session_events.specs.declared.event.Event.TheVariants.{Join, Key as Struck, Resize, Scroll, Mouse as Pointed, Refresh, Leave}
use Rattle.session_events.specs.declared.event.Answered.{Answered}
use Rattle.session_events.specs.Entries.{is_join}
use Rattle.kak_engine.specs.declared.ending.Ending.{Ending}
use Rattle.kak_engine.specs.Course.{Happened, asks_in}
use Rattle.kak_engine.specs.Doing.{Outcome, play_key, Do, top}
use Rattle.kak_engine.specs.Honesty.{Outside, IsHonest}
use Rattle.kak_engine.specs.Recording.{recorded}
use Rattle.kak_engine.specs.Seen.{Does, IsCutShort, end_seen, moment_of, UnderWay, under_way}
use Rattle.kak_engine.specs.Steps.{told, begun, group_ended, key_ended, struck, after_key, shown_to, after_event, course_of, course_of_key, asked_by, AreUsed, AreAskedFor, AreAskedByKey, IsStepCutShort, IsLeftByEvent, IsStepLeft}
use Rattle.kak_engine.specs.Wanting.{IsLeftBy}
use Rattle.kak_engine.proofs.AskingLaws.{begins-same}
use Rattle.kak_engine.proofs.HonestLemmas.{honest-none}
use Rattle.kak_engine.proofs.LeftLemmas.{left-more, asks-begin}

-- a client that was granted to leave, and one that wasn't
pub after-leaving : (who : ℕ) (key : Key) (answers : List Answered) (flat : Flat) → is_client_leaving who flat ≡ true → after_key who key answers flat ≡ flat
unfolding after_key
after-leaving who key answers flat e = rw e refl

after-staying : (who : ℕ) (key : Key) (answers : List Answered) (flat : Flat) → is_client_leaving who flat ≡ false → after_key who key answers flat ≡ key_ended who key (struck who key answers flat)
unfolding after_key
after-staying who key answers flat e = rw e refl

course-leaving : (who : ℕ) (key : Key) (answers : List Answered) (flat : Flat) → is_client_leaving who flat ≡ true → course_of_key who key answers flat ≡ []
unfolding course_of_key
course-leaving who key answers flat e = rw e refl

course-staying : (who : ℕ) (key : Key) (answers : List Answered) (flat : Flat) → is_client_leaving who flat ≡ false → course_of_key who key answers flat ≡ (struck who key answers flat).moment.course
unfolding course_of_key
course-staying who key answers flat e = rw e refl

pub asked-leaving : (who : ℕ) (key : Key) (answers : List Answered) (flat : Flat) → is_client_leaving who flat ≡ true → answers ≡ [] → AreAskedFor who (Struck key) answers flat
asked-leaving who key answers flat e none = subst (λ t. AreAskedByKey t who key answers flat) (sym e) none

pub honest-leaving : (who : ℕ) (key : Key) (answers : List Answered) (flat : Flat) (o : Outside) → is_client_leaving who flat ≡ true → answers ≡ [] → IsHonest answers (asked_by who (Struck key) answers flat) o o
honest-leaving who key answers flat o e none =
    subst (λ (x : List Happened). IsHonest answers (asks_in x) o o) (sym (course-leaving who key answers flat e))
    (subst (λ (x : List Answered). IsHonest x [] o o) (sym none) (honest-none o))

-- the run of a key leads from the world where it begins, with the answers that it was given
struck-is : (who : ℕ) (key : Key) (old begin : Flat) (answers : List Answered) (o : Outside) (new : UnderWay) (ending : Ending) → begin ≡ begun who old → answers ≡ []
    → (d : Does (λ m. play_key Do (top who) true key m) (under_way begin answers o) new (end_seen ending))
    → struck who key new.had old ≡ record { moment = moment_of d.course [] new.world; end = end_seen ending }
struck-is who key old begin answers o new ending b none d =
    ap (λ (f : Flat). play_key Do (top who) true key (moment_of [] new.had f)) (sym b)
    ∙ ap (λ (x : List Answered). play_key Do (top who) true key (moment_of [] x begin)) (d.kept ∙ ap (λ (x : List Answered). x ++ d.used) none ∙ sym (append-nil d.used))
    ∙ d.leads [] []

pub after-struck : (who : ℕ) (key : Key) (old begin kept say settled done : Flat) (answers : List Answered) (o : Outside) (new : UnderWay) (ending : Ending) → is_client_leaving who old ≡ false → begin ≡ begun who old → answers ≡ []
    → Does (λ m. play_key Do (top who) true key m) (under_way begin answers o) new (end_seen ending)
    → kept ≡ recorded who key new.world → say ≡ told who (end_seen ending) kept → settled ≡ group_ended who say → done ≡ step_ended settled → done ≡ after_key who key new.had old
after-struck who key old begin kept say settled done answers o new ending stays b none s k t g d =
    d ∙ ap step_ended g ∙ ap (λ f. step_ended (group_ended who f)) t ∙ ap (λ f. step_ended (group_ended who (told who (end_seen ending) f))) k
    ∙ ap (λ (x : Outcome). key_ended who key x) (sym (struck-is who key old begin answers o new ending b none s))
    ∙ sym (after-staying who key new.had old stays)

pub asked-struck : (who : ℕ) (key : Key) (old begin : Flat) (answers : List Answered) (o : Outside) (new : UnderWay) (ending : Ending) → is_client_leaving who old ≡ false → begin ≡ begun who old → answers ≡ []
    → Does (λ m. play_key Do (top who) true key m) (under_way begin answers o) new (end_seen ending)
    → AreAskedFor who (Struck key) new.had old
asked-struck who key old begin answers o new ending stays b none s =
    subst (λ t. AreAskedByKey t who key new.had old) (sym stays)
    (subst (λ (x : Outcome). AreUsed x.moment) (sym (struck-is who key old begin answers o new ending b none s)) (record { all = refl; fit = refl }))

-- what happened in it is what happens in the key
course-struck : (who : ℕ) (key : Key) (old begin : Flat) (answers : List Answered) (o : Outside) (new : UnderWay) (ending : Ending) → is_client_leaving who old ≡ false → begin ≡ begun who old → answers ≡ []
    → (d : Does (λ m. play_key Do (top who) true key m) (under_way begin answers o) new (end_seen ending)) → course_of_key who key new.had old ≡ d.course
course-struck who key old begin answers o new ending stays b none d =
    course-staying who key new.had old stays ∙ ap (λ (x : Outcome). x.moment.course) (struck-is who key old begin answers o new ending b none d)

pub honest-struck : (who : ℕ) (key : Key) (old begin : Flat) (answers : List Answered) (o : Outside) (new : UnderWay) (ending : Ending) → is_client_leaving who old ≡ false → begin ≡ begun who old → answers ≡ []
    → Does (λ m. play_key Do (top who) true key m) (under_way begin answers o) new (end_seen ending)
    → IsHonest new.had (asked_by who (Struck key) new.had old) o new.outside
honest-struck who key old begin answers o new ending stays b none d =
    subst (λ (x : List Happened). IsHonest new.had (asks_in x) o new.outside) (sym (course-struck who key old begin answers o new ending stays b none d))
    (subst (λ (x : List Answered). IsHonest x (asks_in d.course) o new.outside) (sym (d.kept ∙ ap (λ (x : List Answered). x ++ d.used) none)) d.honest)

-- the world where a key begins was left so
begun-left : (who : ℕ) (old begin : Flat) (course : List Happened) (new : Flat) → begin ≡ begun who old → IsLeftBy (λ x. x ≡ begin) course new → IsLeftBy (λ x. (x ≡ old) ⊎ (x ≡ begun who old)) course new
begun-left who old begin course new b l = left-more (λ x. x ≡ begin) (λ x. (x ≡ old) ⊎ (x ≡ begun who old)) (λ x e. inr (e ∙ b)) course new l

-- a key that was cut short, and one behind which memory was wanting
pub cut-struck : (who : ℕ) (key : Key) (old begin : Flat) (answers : List Answered) (o : Outside) (new : UnderWay) → is_client_leaving who old ≡ false → begin ≡ begun who old
    → IsCutShort (λ m. play_key Do (top who) true key m) (under_way begin answers o) new → IsStepLeft who (Struck key) old new.world o new.outside
cut-struck who key old begin answers o new stays b d = record {
  answers = d.used;
  course = d.course;
  begins = subst (λ (x : List Happened). Begins x d.course) (sym (course-staying who key d.used old stays)) (subst (λ (f : Flat). Begins (play_key Do (top who) true key (moment_of [] d.used f)).moment.course d.course) b (d.begins []));
  honest = d.honest;
  left = inl (begun-left who old begin d.course new.world b d.left);
}

pub cut-told : (who : ℕ) (key : Key) (old begin say : Flat) (answers : List Answered) (o : Outside) (new : UnderWay) (ending : Ending) → is_client_leaving who old ≡ false → begin ≡ begun who old → answers ≡ [] → say ≡ new.world
    → Does (λ m. play_key Do (top who) true key m) (under_way begin answers o) new (end_seen ending)
    → IsStepLeft who (Struck key) old say o new.outside
cut-told who key old begin say answers o new ending stays b none untold d =
    let all : course_of_key who key new.had old ≡ d.course = course-struck who key old begin answers o new ending stays b none d in
    record {
      answers = new.had;
      course = d.course;
      begins = subst (λ (x : List Happened). Begins x d.course) (sym all) (begins-same d.course);
      honest = subst (λ (x : List Answered). IsHonest x (asks_in d.course) o new.outside) (sym (d.kept ∙ ap (λ (x : List Answered). x ++ d.used) none)) d.honest;
      left = inl (subst (λ (x : Flat). IsLeftByEvent (Struck key) who d.course old x) (sym untold) (begun-left who old begin d.course new.world b d.left));
    }

-- an event that was cut short before anything happened in it, and one that was all done
pub left-before : (who : ℕ) (event : Event) (old new : Flat) (o : Outside) → IsLeftByEvent event who [] old new → IsStepLeft who event old new o o
left-before who event old new o l = record { answers = []; course = []; begins = (course_of who event [] old, refl); honest = honest-none o; left = inl l }

pub left-join : (who : ℕ) (event : Event) (old new : Flat) (o : Outside) → event ≡ Join → new ≡ old → IsStepLeft who event old new o o
left-join who event old new o is stays = left-before who event old new o (subst (λ (x : Event). IsLeftByEvent x who [] old new) (sym is) (inl stays))

pub left-coming : (who : ℕ) (event : Event) (old : Flat) (o : Outside) → is_join event ≡ true → IsStepLeft who event old old o o
left-coming who Join old o comes = left-before who Join old old o (inl refl)
left-coming who (Struck key) old o comes = absurd (let no : false ≡ true = comes in cc)
left-coming who (Resize size) old o comes = absurd (let no : false ≡ true = comes in cc)
left-coming who (Scroll lines) old o comes = absurd (let no : false ≡ true = comes in cc)
left-coming who (Pointed mouse) old o comes = absurd (let no : false ≡ true = comes in cc)
left-coming who (Refresh asked) old o comes = absurd (let no : false ≡ true = comes in cc)
left-coming who Leave old o comes = absurd (let no : false ≡ true = comes in cc)

pub left-refresh : (who : ℕ) (event : Event) (asked : Bool) (old new : Flat) (o : Outside) → event ≡ Refresh asked → new ≡ shown_to who old → IsStepLeft who event old new o o
left-refresh who event asked old new o is follows = left-before who event old new o (subst (λ (x : Event). IsLeftByEvent x who [] old new) (sym is) follows)

pub left-after : (who : ℕ) (event : Event) (answers : List Answered) (old new : Flat) (x y : Outside) → IsHonest answers (asked_by who event answers old) x y → new ≡ after_event who event answers old → IsStepLeft who event old new x y
left-after who event answers old new x y h n = record {
  answers = answers;
  course = course_of who event answers old;
  begins = begins-same (course_of who event answers old);
  honest = h;
  left = inr (refl, n);
}

-- what the outside was asked for in an event that was cut short
pub left-cut : (who : ℕ) (event : Event) (old new : Flat) (x y : Outside) → IsStepLeft who event old new x y → IsStepCutShort who event old x y
left-cut who event old new x y l = record { answers = l.answers; asked = asks_in l.course; begins = asks-begin (course_of who event l.answers old) l.course l.begins; honest = l.honest }
