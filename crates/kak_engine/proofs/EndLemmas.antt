-- How parts of a step are put together from the calls that the code makes.
use Rattle.std.proofs.Common.{◌≡◌, ℕ, suc, List, [], ◌∷◌, ◌++◌, refl, sym, ap, ◌∙◌, subst, inl, inr, append-nil}
use Rattle.std.proofs.lemmas.List.{append_assoc}
use Rattle.std.specs.Prelude.{Ok, Err, Some, is_some, IfOk, IfSome, OnOk, OnErr, IsErr, IsErrOf, alloc_error, true, encode_utf8_all}
use Rattle.std.specs.declared.option.Option.{Option}
use Rattle.std.specs.declared.result.Result.{Result}
use Rattle.std.specs.declared.alloc.AllocError.{AllocError}
use Rattle.kak_files.specs.declared.files.FileRead.{FileRead}
use Rattle.kak_files.specs.declared.files.FileRead.TheVariants as file
use Rattle.kak_ports.specs.declared.sink.Put.{Put}
use Rattle.kak_ports.specs.declared.sink.Put.TheVariants as put
use Rattle.regex_ports.specs.declared.maker.Made.{Made}
use Rattle.regex_ports.specs.declared.maker.Made.TheVariants as maker
use Rattle.regex_ports.specs.Making.{IfBuilt}
use Rattle.command_set.specs.Files.{row_read, saved_bytes, row_saved}
use Rattle.command_set.specs.Finishing.{row_finish, source_of}
use Rattle.command_set.specs.Wanting.{IsPartOfRead, IsPartOfSaved}
use Rattle.kak_world.specs.declared.ask.Ask.TheVariants.{Make, Read, Write}
use Rattle.kak_world.specs.declared.ask.Saving.{Saving}
use Rattle.kak_world.specs.declared.purpose.PatternUse.{PatternUse}
use Rattle.kak_words.specs.declared.parts.Command.{Command}
use Rattle.kak_world.specs.declared.ask.Ask.{Ask}
use Rattle.kak_world.specs.declared.ask.EditError.{EditError}
use Rattle.kak_world.specs.declared.ask.EditError.TheVariants.{BudgetSpent, NoMemory}
use Rattle.kak_world.specs.declared.ask.Later.{Later}
use Rattle.kak_world.specs.declared.events.Fault.{Fault}
use Rattle.kak_world.specs.Dropping.{KeepsJoined}
use Rattle.kak_world.specs.Events.{faults_of}
use Rattle.kak_world.specs.Flat.{Flat, acts, units_of, with_units}
use Rattle.kak_world.specs.Rows.{Row, Asks, Fails, GivesUp, RowEnd, GivesRow, error_text, row_of}
use Rattle.kak_world.proofs.KeepingLaws.{acts_kept, keeps_units}
use Rattle.kak_world.proofs.JoinedLemmas.{acts_still}
use Rattle.session_turns.specs.Growth.{Begins}
use Rattle.session_events.specs.declared.event.Answered.{Answered}
use Rattle.kak_engine.specs.declared.ending.Ending.{Ending}
use Rattle.kak_engine.specs.Answering.{as_made, as_read, as_put, made_told, is_built, read_told, put_told}
use Rattle.kak_engine.specs.Asking.{Asked, OfPattern}
use Rattle.kak_engine.specs.Course.{Task, UsesPattern, ShowsFile, NotesFile, GrantsLeave, Happened, WasAsked, Began, asks_in}
use Rattle.kak_engine.specs.Doing.{DoingEnd, Fine, Failed, GivenUp, Moment, Outcome, Part, Go, done_as, in_world, and_then, settle, granted, task_row, task_done, beginning, run_task, end_by_error, each, unit_of, with_unit, go_on, run_command, run_read, do_ask, taken_as, next_as, go_back, by_making, by_reading, by_writing, Do, budget_spent}
use Rattle.kak_engine.specs.declared.place.Place.{Place}
use Rattle.kak_engine.specs.Honesty.{Outside, IsHonest, MakesPattern, ReadsFile, WritesFile}
use Rattle.kak_engine.specs.Seen.{ActsBehind, Does, IsCutShort, PartEnds, end_seen, moment_of, UnderWay, under_way}
use Rattle.kak_engine.specs.Wanting.{IsPartOfTask, IsWithinTask}
use Rattle.kak_engine.proofs.AskingLaws.{Grows, grows-row, grows-task, grows-ask, grows-do}
use Rattle.kak_engine.proofs.CarryingLaws.{Keeps}
use Rattle.kak_engine.proofs.DoingLemmas.{Do-body}
use Rattle.kak_engine.proofs.HonestLemmas.{honest-none, honest-same, honest-behind}
use Rattle.kak_engine.proofs.LeftLemmas.{left-begun, row-within, of-err}

-- a part that is another one where it begins
cut-at : (f g : Part) (old new : UnderWay) → ((course : List Happened) (answers : List Answered) → f (moment_of course answers old.world) ≡ g (moment_of course answers old.world)) → IsCutShort g old new → IsCutShort f old new
cut-at f g old new h d = record {
  used = d.used;
  course = d.course;
  begins = λ before. subst (λ (o : Outcome). Begins o.moment.course (before ++ d.course)) (sym (h before d.used)) (d.begins before);
  honest = d.honest;
  left = d.left;
}

pub ends-at : (r : Result Ending AllocError) (f g : Part) (old new : UnderWay) → ((course : List Happened) (answers : List Answered) → f (moment_of course answers old.world) ≡ g (moment_of course answers old.world)) → PartEnds r g old new → PartEnds r f old new
ends-at (Err e) f g old new h d = cut-at f g old new h d
ends-at (Ok e) f g old new h d = record { used = d.used; course = d.course; kept = d.kept; leads = λ before later. h before (d.used ++ later) ∙ d.leads before later; honest = d.honest; left = d.left }

-- and wherever it begins
pub ends-by : (r : Result Ending AllocError) (f g : Part) (old new : UnderWay) → ((m : Moment) → f m ≡ g m) → PartEnds r g old new → PartEnds r f old new
ends-by r f g old new h d = ends-at r f g old new (λ course answers. h (moment_of course answers old.world)) d

-- a part in which nothing happens
pub does-alone : (part : Part) (old now : Flat) (had : List Answered) (o : Outside) (end : DoingEnd) → now ≡ old
    → ((course : List Happened) (answers : List Answered) → part (moment_of course answers old) ≡ record { moment = moment_of course answers now; end = end })
    → Does part (under_way old had o) (under_way now had o) end
does-alone part old now had o end stays h = record {
  used = [];
  course = [];
  kept = sym (append-nil had);
  leads = λ before later. h before later ∙ ap (λ (x : List Happened). let q : Outcome = record { moment = moment_of x later now; end = end } in q) (sym (append-nil before));
  honest = honest-none o;
  left = stays;
}

-- and one that was cut short before anything happened
pub cut-before : (part : Part) (old new : UnderWay) → Grows part → new.outside ≡ old.outside → new.world ≡ old.world → IsCutShort part old new
cut-before part old new g same stays = record {
  used = [];
  course = [];
  begins = λ before. subst (λ (x : List Happened). Begins (part (moment_of before [] old.world)).moment.course x) (sym (append-nil before)) (g (moment_of before [] old.world));
  honest = honest-same old.outside new.outside same;
  left = stays;
}

-- a task whose row asks for nothing was done, and one for which memory was wanting
pub does-task : (who : ℕ) (task : Task) (end : DoingEnd) (old now : Flat) (had : List Answered) (o : Outside) → now ≡ (task_row task who old).world → Does (λ m. done_as end (task_done who task m)) (under_way old had o) (under_way now had o) end
does-task who task end old now had o goes = record {
  used = [];
  course = Began who task old ∷ [];
  kept = sym (append-nil had);
  leads = λ before later. ap (λ (x : Flat). let q : Outcome = record { moment = moment_of (before ++ Began who task old ∷ []) later x; end = end } in q) (sym goes);
  honest = honest-none o;
  left = inr goes;
}

-- a task that was begun, where memory was wanting, in front of a part in which more happens
pub task-wanting : (who : ℕ) (task : Task) (part : Part) (old now : Flat) (had : List Answered) (o : Outside) → Grows part → IsPartOfTask task who old now → IsCutShort (λ m. part (task_done who task m)) (under_way old had o) (under_way now had o)
task-wanting who task part old now had o g wants = record {
  used = [];
  course = Began who task old ∷ [];
  begins = λ before. g (task_done who task (moment_of before [] old));
  honest = honest-none o;
  left = inl wants;
}

-- what comes behind a row asks for more
pub grows-end : (place : Place) (end : RowEnd) → Grows (λ m. go_on Do place end m)
grows-end place end m = grows-row Do place end grows-do m

-- what is asked for is done behind a row that asks for it
pub row-asks : (place : Place) (ask : Ask) (r : Result Ending AllocError) (now : Flat) (had : List Answered) (o : Outside) (new : UnderWay) → PartEnds r (λ m. Do place (Asks ask) m) (under_way now had o) new
    → (end : RowEnd) → GivesRow (Ok ask) now end → PartEnds r (λ m. go_on Do place end m) (under_way now had o) new
row-asks place ask (Err e) now had o new d end g = record {
  used = d.used;
  course = d.course;
  begins = λ es. subst (λ (x : RowEnd). Begins (go_on Do place x (moment_of es d.used now)).moment.course (es ++ d.course)) (sym g) (d.begins es);
  honest = d.honest;
  left = d.left;
}
row-asks place ask (Ok e) now had o new d end g = record {
  used = d.used;
  course = d.course;
  kept = d.kept;
  leads = λ es later. ap (λ (x : RowEnd). go_on Do place x (moment_of es (d.used ++ later) now)) g ∙ d.leads es later;
  honest = d.honest;
  left = d.left;
}

-- a row that gives up, as its code answered that
pub given-up-row : (place : Place) (error : EditError) (told : ℕ) (text : List ℕ) (now : Flat) (had : List Answered) (o : Outside) → GivenUp text ≡ end_by_error told error
    → (end : RowEnd) → GivesRow (Err error) now end → Does (λ m. go_on Do place end m) (under_way now had o) (under_way now had o) (GivenUp text)
given-up-row place BudgetSpent told text now had o f end g =
    does-alone (λ m. go_on Do place end m) now now had o (GivenUp text) refl (λ course answers.
    ap (λ (x : RowEnd). go_on Do place x (moment_of course answers now)) g
    ∙ Do-body place GivesUp (moment_of course answers now)
    ∙ ap (λ (x : DoingEnd). let q : Outcome = record { moment = moment_of course answers now; end = x } in q) (sym f))
given-up-row place NoMemory told text now had o f end g = cc
given-up-row place error told text now had o f end g = cc

-- a row that fails, behind which hooks are run before it ends with its error
pub failed-row : (place : Place) (error : EditError) (fault : Fault) (r : Result Ending AllocError) (now : Flat) (had : List Answered) (o : Outside) (new : UnderWay) → Failed fault ≡ end_by_error (faults_of now) error → (error ≡ NoMemory → ⊥)
    → PartEnds r (λ m. and_then (settle Do place m) (done_as (Failed fault))) (under_way now had o) new → (end : RowEnd) → GivesRow (Err error) now end → PartEnds r (λ m. go_on Do place end m) (under_way now had o) new
failed-row place BudgetSpent fault r now had o new f n d end g = cc
failed-row place NoMemory fault r now had o new f n d end g = absurd (n refl)
failed-row place error fault r now had o new f n d end g =
    ends-at r (λ m. go_on Do place end m) (λ m. and_then (settle Do place m) (done_as (Failed fault))) (under_way now had o) new (λ course answers.
    ap (λ (x : RowEnd). go_on Do place x (moment_of course answers now)) g
    ∙ Do-body place (Fails (error_text error)) (moment_of course answers now)
    ∙ ap (λ (x : DoingEnd). and_then (settle Do place (moment_of course answers now)) (done_as x)) (sym f)) d

-- no refusal ends well
pub none-fine : (told : ℕ) (error : EditError) → Fine ≡ end_by_error told error → ⊥
none-fine told BudgetSpent f = cc
none-fine told error f = cc

-- memory was wanting for the text of a refusal, or for the refused row itself
pub untold-row : (place : Place) (now : Flat) (had : List Answered) (o : Outside) (end : RowEnd) → IsCutShort (λ m. go_on Do place end m) (under_way now had o) (under_way now had o)
untold-row place now had o end = cut-before (λ m. go_on Do place end m) (under_way now had o) (under_way now had o) (grows-end place end) refl refl

-- what the text of a refused reading leads to: nothing is run
is-read : (error : EditError) (r : Result (List Command) EditError) → (error ≡ NoMemory → ⊥) → IfSome (row_of error) (λ row. r ≡ Err error) → r ≡ Err error
is-read NoMemory r n w = absurd (n refl)
is-read error r n w = w

pub unread : (go : Go) (place : Place) (read : Result (List Command) EditError) (error : EditError) (r : Result Ending AllocError) (now : Flat) (had : List Answered) (o : Outside)
    → IfSome (row_of error) (λ row. read ≡ Err error) → IfOk r (λ e. end_seen e ≡ end_by_error (faults_of now) error) → (error ≡ NoMemory → IsErr r) → Grows (λ m. run_read go place read m)
    → PartEnds r (λ m. run_read go place read m) (under_way now had o) (under_way now had o)
unread go place read error (Err e) now had o w f n g = cut-before (λ m. run_read go place read m) (under_way now had o) (under_way now had o) g refl refl
unread go place read error (Ok e) now had o w f n g =
    let none : error ≡ NoMemory → ⊥ = (λ is. let x : IsErr {T = Ending} {E = AllocError} (Ok e) = n is in cc) in
    let same : read ≡ Err error = is-read error read none w in
    does-alone (λ m. run_read go place read m) now now had o (end_seen e) refl (λ course answers.
    ap (λ (x : Result (List Command) EditError). run_read go place x (moment_of course answers now)) same
    ∙ ap (λ (x : DoingEnd). let q : Outcome = record { moment = moment_of course answers now; end = x } in q) (sym f))

-- a text that was read as commands
pub all-read : (go : Go) (place : Place) (read : Result (List Command) EditError) (commands : List Command) (r : Result Ending AllocError) (old new : UnderWay) → read ≡ Ok commands
    → PartEnds r (λ m. each (run_command go place) commands m) old new → PartEnds r (λ m. run_read go place read m) old new
all-read go place read commands r old new e d = ends-by r (λ m. run_read go place read m) (λ m. each (run_command go place) commands m) old new (λ m. ap (λ (x : Result (List Command) EditError). run_read go place x m) e) d

-- a part that begins a task, and goes on with another one behind its row
pub begun-part : (who : ℕ) (task : Task) (r : Result Ending AllocError) (part rest : Part) (old before now : Flat) (had : List Answered) (o : Outside) (new : UnderWay)
    → ((course : List Happened) (answers : List Answered) → part (moment_of course answers old) ≡ rest (moment_of (course ++ Began who task before ∷ []) answers now))
    → IsWithinTask task who before now → PartEnds r rest (under_way now had o) new → PartEnds r part (under_way old had o) new
begun-part who task (Err e) part rest old before now had o new h within d = record {
  used = d.used;
  course = Began who task before ∷ d.course;
  begins = λ es.
      subst (λ (q : Outcome). Begins q.moment.course (es ++ Began who task before ∷ d.course)) (sym (h es d.used))
      (subst (λ (q : List Happened). Begins (rest (moment_of (es ++ Began who task before ∷ []) d.used now)).moment.course q) (append_assoc es (Began who task before ∷ []) d.course) (d.begins (es ++ Began who task before ∷ [])));
  honest = d.honest;
  left = left-begun who task before now d.course new.world within d.left;
}
begun-part who task (Ok e) part rest old before now had o new h within d = record {
  used = d.used;
  course = Began who task before ∷ d.course;
  kept = d.kept;
  leads = λ es later.
      h es (d.used ++ later)
      ∙ d.leads (es ++ Began who task before ∷ []) later
      ∙ ap (λ (q : List Happened). let o : Outcome = record { moment = moment_of q later new.world; end = end_seen e } in o) (append_assoc es (Began who task before ∷ []) d.course);
  honest = d.honest;
  left = left-begun who task before now d.course new.world within d.left;
}

-- a part behind a task whose row asks for nothing
pub task-then : (who : ℕ) (task : Task) (rest : Part) (r : Result Ending AllocError) (old now : Flat) (had : List Answered) (o : Outside) (new : UnderWay) → now ≡ (task_row task who old).world
    → PartEnds r rest (under_way now had o) new → PartEnds r (λ m. rest (task_done who task m)) (under_way old had o) new
task-then who task rest r old now had o new goes d =
    begun-part who task r (λ m. rest (task_done who task m)) rest old old now had o new
    (λ course answers. ap (λ (x : Flat). rest (moment_of (course ++ Began who task old ∷ []) answers x)) (sym goes)) (inr goes) d

-- what comes behind a task's row, where it goes on with that
begun-ends : (place : Place) (task : Task) (r : Result Ending AllocError) (part : Part) (old before now : Flat) (had : List Answered) (o : Outside) (new : UnderWay)
    → ((course : List Happened) (answers : List Answered) → part (moment_of course answers old) ≡ go_on Do place (task_row task place.who before) (moment_of (course ++ Began place.who task before ∷ []) answers now))
    → IsWithinTask task place.who before now → PartEnds r (λ m. go_on Do place (task_row task place.who before) m) (under_way now had o) new → PartEnds r part (under_way old had o) new
begun-ends place task r part old before now had o new h within d = begun-part place.who task r part (λ m. go_on Do place (task_row task place.who before) m) old before now had o new h within d

-- a task, behind whose row it goes on
pub task-ends : (place : Place) (task : Task) (r : Result Ending AllocError) (before now : Flat) (had : List Answered) (o : Outside) (new : UnderWay)
    → IsWithinTask task place.who before now → PartEnds r (λ m. go_on Do place (task_row task place.who before) m) (under_way now had o) new → PartEnds r (λ m. run_task Do place task m) (under_way before had o) new
task-ends place task r before now had o new within d = begun-ends place task r (λ m. run_task Do place task m) before before now had o new (λ course answers. refl) within d

-- a part that is handed the next answer, which is of the kind that was asked for
next-is : {A : Type 0} (kind : Answered → Option A) (part : A → Part) (answer : Answered) (x : A) (course : List Happened) (later : List Answered) (world : Flat) → kind answer ≡ Some x
    → next_as kind part (answer ∷ later) (moment_of course (answer ∷ later) world) ≡ part x (moment_of course later world)
next-is kind part answer x course later world k = ap (λ (o : Option _). taken_as o part later (moment_of course (answer ∷ later) world)) k

-- a task that goes on with an answer of the outside
back-does : {A : Type 0} (place : Place) (kind : Answered → Option A) (what : A → Flat → Asked) (task : A → Task) (answer : Answered) (x : A) (end : DoingEnd) (old : Flat) (had mid : List Answered) (o p : Outside) (new : UnderWay)
    → kind answer ≡ Some x → mid ≡ had ++ answer ∷ [] → IsHonest (answer ∷ []) (what x old ∷ []) o p
    → Does (λ m. run_task Do place (task x) m) (under_way old mid p) new end
    → Does (λ m. next_as kind (go_back Do place what task) m.answers m) (under_way old had o) new end
back-does place kind what task answer x end old had mid o p new k h honest d = record {
  used = answer ∷ d.used;
  course = WasAsked (what x old) ∷ d.course;
  kept = d.kept ∙ ap (λ (q : List Answered). q ++ d.used) h ∙ append_assoc had (answer ∷ []) d.used;
  leads = λ before later.
      next-is kind (go_back Do place what task) answer x before (d.used ++ later) old k
      ∙ d.leads (before ++ WasAsked (what x old) ∷ []) later
      ∙ ap (λ (q : List Happened). let o : Outcome = record { moment = moment_of q later new.world; end = end } in o) (append_assoc before (WasAsked (what x old) ∷ []) d.course);
  honest = honest-behind (answer ∷ []) d.used (what x old ∷ []) (asks_in d.course) o p new.outside honest d.honest;
  left = d.left;
}

-- and one that was cut short behind it
back-cut : {A : Type 0} (place : Place) (kind : Answered → Option A) (what : A → Flat → Asked) (task : A → Task) (answer : Answered) (x : A) (old : Flat) (had mid : List Answered) (o p : Outside) (new : UnderWay)
    → kind answer ≡ Some x → IsHonest (answer ∷ []) (what x old ∷ []) o p
    → IsCutShort (λ m. run_task Do place (task x) m) (under_way old mid p) new
    → IsCutShort (λ m. next_as kind (go_back Do place what task) m.answers m) (under_way old had o) new
back-cut place kind what task answer x old had mid o p new k honest d = record {
  used = answer ∷ d.used;
  course = WasAsked (what x old) ∷ d.course;
  begins = λ before.
      subst (λ (q : Outcome). Begins q.moment.course (before ++ WasAsked (what x old) ∷ d.course)) (sym (next-is kind (go_back Do place what task) answer x before d.used old k))
      (subst (λ (q : List Happened). Begins (run_task Do place (task x) (moment_of (before ++ WasAsked (what x old) ∷ []) d.used old)).moment.course q) (append_assoc before (WasAsked (what x old) ∷ []) d.course) (d.begins (before ++ WasAsked (what x old) ∷ [])));
  honest = honest-behind (answer ∷ []) d.used (what x old ∷ []) (asks_in d.course) o p new.outside honest d.honest;
  left = d.left;
}

pub back-ends : {A : Type 0} (place : Place) (kind : Answered → Option A) (what : A → Flat → Asked) (task : A → Task) (answer : Answered) (x : A) (r : Result Ending AllocError) (old now : Flat) (had mid : List Answered) (o p : Outside) (new : UnderWay)
    → kind answer ≡ Some x → mid ≡ had ++ answer ∷ [] → IsHonest (answer ∷ []) (what x old ∷ []) o p → IsWithinTask (task x) place.who old now
    → PartEnds r (λ m. go_on Do place (task_row (task x) place.who old) m) (under_way now mid p) new
    → PartEnds r (λ m. next_as kind (go_back Do place what task) m.answers m) (under_way old had o) new
back-ends place kind what task answer x (Err e) old now had mid o p new k h honest within d = back-cut place kind what task answer x old had mid o p new k honest (task-ends place (task x) (Err e) old now mid p new within d)
back-ends place kind what task answer x (Ok e) old now had mid o p new k h honest within d = back-does place kind what task answer x (end_seen e) old had mid o p new k h honest (task-ends place (task x) (Ok e) old now mid p new within d)

-- memory was wanting to keep an answer: the task that goes on with it isn't begun
back-unkept : {A : Type 0} (place : Place) (kind : Answered → Option A) (what : A → Flat → Asked) (task : A → Task) (answer : Answered) (x : A) (old : Flat) (had : List Answered) (o : Outside) (new : UnderWay)
    → kind answer ≡ Some x → IsHonest (answer ∷ []) (what x old ∷ []) o new.outside → new.world ≡ old
    → IsCutShort (λ m. next_as kind (go_back Do place what task) m.answers m) (under_way old had o) new
back-unkept place kind what task answer x old had o new k honest stays =
    back-cut place kind what task answer x old had had o new.outside new k honest (cut-before (λ m. run_task Do place (task x) m) (under_way old had new.outside) new (grows-task Do place (task x) grows-do) refl stays)

-- or its row was answered, and nothing came behind that
back-begun : {A : Type 0} (place : Place) (kind : Answered → Option A) (what : A → Flat → Asked) (task : A → Task) (answer : Answered) (x : A) (old : Flat) (had : List Answered) (o : Outside) (new : UnderWay)
    → kind answer ≡ Some x → IsHonest (answer ∷ []) (what x old ∷ []) o new.outside → IsWithinTask (task x) place.who old new.world
    → IsCutShort (λ m. next_as kind (go_back Do place what task) m.answers m) (under_way old had o) new
back-begun place kind what task answer x old had o new k honest within =
    back-cut place kind what task answer x old had had o new.outside new k honest
    (task-ends place (task x) (Err alloc_error) old new.world had new.outside new within
    (cut-before (λ m. go_on Do place (task_row (task x) place.who old) m) (under_way new.world had new.outside) new (grows-end place (task_row (task x) place.who old)) refl refl))

-- what a row asks for was cut short before the outside was asked
pub ask-unasked : (place : Place) (ask : Ask) (old new : UnderWay) → new.outside ≡ old.outside → new.world ≡ old.world → IsCutShort (λ m. do_ask Do place ask m) old new
ask-unasked place ask old new same stays = cut-before (λ m. do_ask Do place ask m) old new (λ m. grows-ask Do place ask grows-do m) same stays

-- a use that goes on behind a pattern that the maker made or refused
made-as : {P : Type 0} (source : P → List ℕ) (made : Made P) (text : List ℕ) → IfBuilt made (λ p. source p ≡ text) → as_made text (made_told made) ≡ Some (source_of source made)
made-as source (maker.Built p) text b = ap (λ (s : List ℕ). Some (Some s)) (sym b)
made-as source maker.Refused text b = refl

built-as : {P : Type 0} (source : P → List ℕ) (made : Made P) → is_built made ≡ is_some (source_of source made)
built-as source (maker.Built p) = refl
built-as source maker.Refused = refl

-- what was asked for, as the definitions have it
made-honest-as : {P : Type 0} (source : P → List ℕ) (made : Made P) (text : List ℕ) (told : Answered) (o p : Outside) → told ≡ made_told made → MakesPattern made text o p
    → IsHonest (told ∷ []) (OfPattern text (is_some (source_of source made)) ∷ []) o p
made-honest-as source made text told o p is h =
    subst (λ (a : Answered). IsHonest (a ∷ []) (OfPattern text (is_some (source_of source made)) ∷ []) o p) (sym is)
    (subst (λ b. IsHonest (made_told made ∷ []) (OfPattern text b ∷ []) o p) (built-as source made) h)

pub made-ends : {P : Type 0} (place : Place) (wanted : PatternUse) (said : List ℕ) (source : P → List ℕ) (made : Made P) (told : Answered) (row : Result Ask EditError) (r : Result Ending AllocError) (old now : Flat) (had mid : List Answered) (o p : Outside) (new : UnderWay) → said ≡ wanted.pattern
    → told ≡ made_told made → IfBuilt made (λ p. source p ≡ encode_utf8_all said) → MakesPattern made (encode_utf8_all said) o p → mid ≡ had ++ told ∷ []
    → GivesRow row now (row_finish wanted.then (source_of source made) place.who old) → (IsErrOf row NoMemory → now ≡ old)
    → PartEnds r (λ m. go_on Do place (row_finish wanted.then (source_of source made) place.who old) m) (under_way now mid p) new
    → PartEnds r (λ m. do_ask Do place (Make wanted) m) (under_way old had o) new
made-ends place wanted said source made told row r old now had mid o p new same is b h k gives wants d =
    back-ends place (as_made (encode_utf8_all wanted.pattern)) (by_making (encode_utf8_all wanted.pattern)) (UsesPattern wanted.then) told (source_of source made) r old now had mid o p new
    (ap (as_made (encode_utf8_all wanted.pattern)) is ∙ made-as source made _ (subst (λ text. IfBuilt made (λ p. source p ≡ encode_utf8_all text)) same b)) k
    (made-honest-as source made _ told o p is (subst (λ text. MakesPattern made (encode_utf8_all text) o p) same h))
    (row-within place.who (UsesPattern wanted.then (source_of source made)) row old now gives wants) d

pub made-unkept : {P : Type 0} (place : Place) (wanted : PatternUse) (said : List ℕ) (source : P → List ℕ) (made : Made P) (old : Flat) (had : List Answered) (o : Outside) (new : UnderWay) → said ≡ wanted.pattern
    → IfBuilt made (λ p. source p ≡ encode_utf8_all said) → MakesPattern made (encode_utf8_all said) o new.outside → new.world ≡ old
    → IsCutShort (λ m. do_ask Do place (Make wanted) m) (under_way old had o) new
made-unkept place wanted said source made old had o new same b h stays =
    back-unkept place (as_made (encode_utf8_all wanted.pattern)) (by_making (encode_utf8_all wanted.pattern)) (UsesPattern wanted.then) (made_told made) (source_of source made) old had o new
    (made-as source made _ (subst (λ text. IfBuilt made (λ p. source p ≡ encode_utf8_all text)) same b))
    (made-honest-as source made _ (made_told made) o new.outside refl (subst (λ text. MakesPattern made (encode_utf8_all text) o new.outside) same h)) stays

-- a file that was read
read-as : (read : FileRead) → as_read (read_told read) ≡ Some read
read-as (file.Bytes bytes) = refl
read-as file.NotThere = refl
read-as file.TooBig = refl
read-as file.Failed = refl

pub read-ends : (place : Place) (name said : List ℕ) (read : FileRead) (told : Answered) (row : Result Ask EditError) (r : Result Ending AllocError) (old now : Flat) (had mid : List Answered) (o p : Outside) (new : UnderWay) → said ≡ name → told ≡ read_told read
    → ReadsFile read said o p → mid ≡ had ++ told ∷ []
    → GivesRow row now (row_read name read place.who old) → OnErr row (IsPartOfRead name read place.who old now)
    → PartEnds r (λ m. go_on Do place (row_read name read place.who old) m) (under_way now mid p) new
    → PartEnds r (λ m. do_ask Do place (Read name) m) (under_way old had o) new
read-ends place name said read told row r old now had mid o p new same is h k gives wants d =
    back-ends place as_read (by_reading name) (ShowsFile name) (read_told read) read r old now had mid o p new (read-as read) (k ∙ ap (λ (a : Answered). had ++ a ∷ []) is)
    (subst (λ n. ReadsFile read n o p) same h) (row-within place.who (ShowsFile name read) row old now gives (of-err row NoMemory wants)) d

pub read-unkept : (place : Place) (name said : List ℕ) (read : FileRead) (row : Result Ask EditError) (old : Flat) (had : List Answered) (o : Outside) (new : UnderWay) → said ≡ name
    → ReadsFile read said o new.outside → GivesRow row new.world (row_read name read place.who old) → OnErr row (IsPartOfRead name read place.who old new.world)
    → IsCutShort (λ m. do_ask Do place (Read name) m) (under_way old had o) new
read-unkept place name said read row old had o new same h gives wants =
    back-begun place as_read (by_reading name) (ShowsFile name) (read_told read) read old had o new (read-as read)
    (subst (λ n. ReadsFile read n o new.outside) same h) (row-within place.who (ShowsFile name read) row old new.world gives (of-err row NoMemory wants))

-- a file that was written
put-as : (put : Put) → as_put (put_told put) ≡ Some put
put-as put.Done = refl
put-as put.Failed = refl

pub write-ends : (place : Place) (saving : Saving) (put : Put) (told : Answered) (row : Result Ask EditError) (r : Result Ending AllocError) (old now : Flat) (had mid : List Answered) (o p : Outside) (new : UnderWay) → told ≡ put_told put
    → WritesFile put saving.file (saved_bytes saving old) o p → mid ≡ had ++ told ∷ []
    → GivesRow row now (row_saved saving put place.who old) → OnErr row (IsPartOfSaved saving put place.who old now)
    → PartEnds r (λ m. go_on Do place (row_saved saving put place.who old) m) (under_way now mid p) new
    → PartEnds r (λ m. do_ask Do place (Write saving) m) (under_way old had o) new
write-ends place saving put told row r old now had mid o p new is h k gives wants d =
    back-ends place as_put (by_writing saving) (NotesFile saving) (put_told put) put r old now had mid o p new (put-as put) (k ∙ ap (λ (a : Answered). had ++ a ∷ []) is) h (row-within place.who (NotesFile saving put) row old now gives (of-err row NoMemory wants)) d

pub write-unkept : (place : Place) (saving : Saving) (put : Put) (old : Flat) (had : List Answered) (o : Outside) (new : UnderWay)
    → WritesFile put saving.file (saved_bytes saving old) o new.outside → new.world ≡ old → IsCutShort (λ m. do_ask Do place (Write saving) m) (under_way old had o) new
write-unkept place saving put old had o new h stays =
    back-unkept place as_put (by_writing saving) (NotesFile saving) (put_told put) put old had o new (put-as put) h stays

-- a task behind a unit that was taken, and a part without a unit
pub unit-task : (place : Place) (task : Task) (row : Result Ask EditError) (r : Result Ending AllocError) (old before now : Flat) (had : List Answered) (o : Outside) (new : UnderWay) → units_of old ≡ suc (units_of before) → before ≡ with_units (units_of before) old
    → GivesRow row now (task_row task place.who before) → (IsErrOf row NoMemory → IsPartOfTask task place.who before now)
    → PartEnds r (λ m. go_on Do place (task_row task place.who before) m) (under_way now had o) new → PartEnds r (λ m. with_unit (run_task Do place task) m) (under_way old had o) new
unit-task place task row r old before now had o new u w gives wants d =
    begun-ends place task r (λ m. with_unit (run_task Do place task) m) old before now had o new
    (λ course answers.
    ap (λ (n : ℕ). unit_of n (run_task Do place task) (moment_of course answers old)) u
    ∙ ap (λ (x : Flat). run_task Do place task (moment_of course answers x)) (sym w))
    (row-within place.who task row before now gives wants) d

pub unit-wanting : (part : Part) (old now : Flat) (course : List Happened) (answers : List Answered) → units_of old ≡ 0 → now ≡ old
    → with_unit part (moment_of course answers old) ≡ record { moment = moment_of course answers now; end = GivenUp budget_spent }
unit-wanting part old now course answers u w =
    ap (λ (n : ℕ). unit_of n part (moment_of course answers old)) u
    ∙ ap (λ (x : Flat). let o : Outcome = record { moment = moment_of course answers x; end = GivenUp budget_spent } in o) (sym w)

-- behind a unit that was taken, a client acts still
pub unit-acts : (who : ℕ) (old now : Flat) → now ≡ with_units (units_of now) old → acts who old ≡ true → acts who now ≡ true
unit-acts who old now w a = ap (acts who) w ∙ acts_kept who old _ (keeps_units (units_of now) old) ∙ a

-- behind a row that isn't wanting in memory, its client acts still
acts-refused : (who : ℕ) (error : EditError) (old new : Flat) (end : RowEnd) → GivesRow (Err error) new end → KeepsJoined old end.world → acts who old ≡ true → ActsBehind (Err error) who new
acts-refused who NoMemory old new end g k a = tt
acts-refused who BudgetSpent old new end g k a = ap (λ (x : RowEnd). acts who x.world) (sym g) ∙ acts_still who old end.world k a
acts-refused who error old new end g k a = ap (λ (x : RowEnd). acts who x.world) (sym g) ∙ acts_still who old end.world k a

pub acts-row : (who : ℕ) (r : Result Ask EditError) (old new : Flat) (end : RowEnd) → GivesRow r new end → KeepsJoined old end.world → acts who old ≡ true → ActsBehind r who new
acts-row who (Ok ask) old new end g k a = ap (λ (x : RowEnd). acts who x.world) (sym g) ∙ acts_still who old end.world k a
acts-row who (Err error) old new end g k a = acts-refused who error old new end g k a

-- what is so behind a part by its definition, is so where the part was done
pub does-keeps : (R : Flat → Flat → Type 0) (part : Part) (end : DoingEnd) (old new : UnderWay) → Does part old new end → Keeps R part → R old.world new.world
does-keeps R part end old new d k = subst (λ (o : Outcome). R old.world o.moment.world) (d.leads [] []) (k (moment_of [] (d.used ++ []) old.world))

-- and behind a part a client acts still
pub acts-part : (who : ℕ) (r : Result Ending AllocError) (part : Part) (old new : UnderWay) → PartEnds r part old new → Keeps KeepsJoined part → acts who old.world ≡ true → OnOk r (acts who new.world ≡ true)
acts-part who (Ok e) part old new d k a = acts_still who old.world new.world (does-keeps KeepsJoined part (end_seen e) old new d k) a
acts-part who (Err e) part old new d k a = tt
