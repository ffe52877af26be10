-- How parts are done one deeper, between two tasks, and where another one failed.
use Rattle.std.proofs.Common.{◌≡◌, ℕ, suc, ◌≤◌, ◌<◌, Bool, true, false, nat_lt, List, [], ◌∷◌, ◌++◌, refl, sym, ap, ◌∙◌, subst, inr, append-nil, arith, Ok, Err, Some, None}
use Rattle.std.specs.Prelude.{alloc_error}
use Rattle.std.proofs.lemmas.List.{append_assoc}
use Rattle.std.specs.declared.option.Option.{Option}
use Rattle.std.specs.declared.result.Result.{Result}
use Rattle.std.specs.declared.alloc.AllocError.{AllocError}
use Rattle.key_names.specs.declared.key.Key.{Key}
use Rattle.kak_words.specs.declared.parts.Command.{Command}
use Rattle.kak_world.specs.declared.ask.Ask.{Ask}
use Rattle.kak_world.specs.declared.ask.Ask.TheVariants.{Play, Try}
use Rattle.kak_world.specs.declared.ask.EditError.{EditError}
use Rattle.scope_tables.specs.declared.hooks.HookRef.{HookRef}
use Rattle.kak_world.specs.declared.events.Fault.{Fault}
use Rattle.kak_world.specs.declared.events.HookEvent.{HookEvent}
use Rattle.kak_world.specs.declared.playing.Macro.{Macro}
use Rattle.kak_world.specs.declared.playing.PlayKeys.{PlayKeys}
use Rattle.kak_world.specs.declared.playing.TryTexts.{TryTexts}
use Rattle.kak_world.specs.Dropping.{KeepsJoined}
use Rattle.kak_world.specs.Flat.{Flat, acts, units_of, with_units}
use Rattle.kak_world.specs.Running.{keys_mapped}
use Rattle.kak_world.specs.Rows.{Asks, RowEnd, GivesRow}
use Rattle.kak_world.proofs.JoinedLemmas.{acts_still}
use Rattle.kak_world.proofs.WorldLaws.{units_units}
use Rattle.key_rows.specs.Playing.{row_macro}
use Rattle.session_turns.specs.Growth.{Begins}
use Rattle.session_events.specs.declared.event.Answered.{Answered}
use Rattle.kak_engine.specs.declared.ending.Ending.{Ending}
use Rattle.kak_engine.specs.declared.ending.Ending.TheVariants as code
use Rattle.kak_engine.specs.declared.ending.Limit.{Limit}
use Rattle.kak_engine.specs.declared.ending.Limit.TheVariants.{Units}
use Rattle.kak_engine.specs.declared.place.Place.{Place}
use Rattle.kak_engine.specs.declared.place.TheConstants.{MAX_DEPTH}
use Rattle.kak_engine.specs.Asking.{Asked}
use Rattle.kak_engine.specs.Course.{Task, RunsMacro, Happened, Began, asks_in}
use Rattle.kak_engine.specs.Doing.{DoingEnd, Fine, Failed, GivenUp, Moment, Outcome, Part, deeper, next_after, and_then, each, or_else, finally, in_world, unit_of, with_unit, if_room, nested, task_row, run_task, task_done, go_on, run_command, run_text, run_deeper, run_hook, run_event, settle, task_settled, strike, strike_mapped, play_key, play_once, quiet_unless, play_nested, play_again, do_ask, Do, budget_spent, nested_too_deep}
use Rattle.kak_engine.specs.Honesty.{Outside, IsHonest}
use Rattle.kak_engine.specs.Seen.{Does, IsCutShort, PartEnds, end_seen, limit_text, moment_of, UnderWay, under_way}
use Rattle.kak_engine.specs.Wanting.{IsWithinTask, IsLeftBy}
use Rattle.kak_engine.proofs.AskingLaws.{begins-behind, grows-both, grows-else, grows-each, grows-finally, grows-taking, grows-command, grows-strike, grows-key, grows-deeper, grows-hook, grows-event, grows-settle, grows-settled, grows-played, grows-again, grows-ask, grows-do}
use Rattle.kak_engine.proofs.CarryingLaws.{Keeps, keeps-then, keeps-each, keeps-unit, keeps-task, keeps-command, keeps-strike, keeps-deeper, keeps-hook, keeps-event, keeps-settle, keeps-settled, keeps-key, keeps-played, carried-do}
use Rattle.kak_engine.proofs.DoingLemmas.{Do-body}
use Rattle.kak_engine.proofs.EndLemmas.{ends-at, ends-by, does-alone, does-keeps, row-asks, unit-task, unit-wanting, unit-acts}
use Rattle.kak_engine.proofs.LeftLemmas.{left-append, left-begun, asks_in-append}
use Rattle.kak_engine.proofs.LoopLemmas.{LeadsOn, leads-first, IsTame, behind-ends, first-cut, stops, then-fine, then-failed, then-given-up, then-cut}
use Rattle.kak_engine.proofs.TaskLaws.{TakesUnits, units-carried, units-task, joined-carried, joined-task}

-- a part that is done one deeper, where there is room for it, and where there is none
pub nested-ends : (p q : Place) (part : Place → Part) (r : Result Ending AllocError) (old new : UnderWay) → nat_lt p.depth MAX_DEPTH ≡ true → q ≡ deeper p → PartEnds r (λ m. part q m) old new → PartEnds r (λ m. nested p part m) old new
nested-ends p q part r old new room inner d =
    ends-by r (λ m. nested p part m) (λ m. part q m) old new (λ m. ap (λ b. if_room b (part (deeper p)) m) room ∙ ap (λ (x : Place). part x m) (sym inner)) d

pub too-deep : (p : Place) (part : Place → Part) (world : Flat) (had : List Answered) (o : Outside) → nat_lt p.depth MAX_DEPTH ≡ false → Does (λ m. nested p part m) (under_way world had o) (under_way world had o) (GivenUp nested_too_deep)
too-deep p part world had o full = does-alone (λ m. nested p part m) world world had o (GivenUp nested_too_deep) refl (λ course answers. ap (λ b. if_room b (part (deeper p)) (moment_of course answers world)) full)

-- what happened between two tasks that ask for nothing
between-course : (before c : List Happened) (first last : Happened) → ((before ++ first ∷ []) ++ c) ++ last ∷ [] ≡ before ++ (first ∷ (c ++ last ∷ []))
between-course before c first last = append_assoc (before ++ first ∷ []) c (last ∷ []) ∙ append_assoc before (first ∷ []) (c ++ last ∷ [])

asks-between : (c : List Happened) (who : ℕ) (task : Task) (flat : Flat) → asks_in c ≡ asks_in (c ++ Began who task flat ∷ [])
asks-between c who task flat = sym (asks_in-append c (Began who task flat ∷ []) ∙ append-nil (asks_in c))

-- a part between two tasks, of which the last is done however it ended
between-does : (who : ℕ) (task : Task) (last : Flat → Task) (part : Part) (end : DoingEnd) (old mid now : Flat) (had : List Answered) (o : Outside) (inner : UnderWay)
    → mid ≡ (task_row task who old).world → now ≡ (task_row (last old) who inner.world).world → Does part (under_way mid had o) inner end
    → Does (λ m. finally (task_done who (last m.world)) (part (task_done who task m))) (under_way old had o) (under_way now inner.had inner.outside) end
between-does who task last part end old mid now had o inner h l d =
    let first : Happened = Began who task old in
    let final : Happened = Began who (last old) inner.world in
    record {
      used = d.used;
      course = first ∷ (d.course ++ final ∷ []);
      kept = d.kept;
      leads = λ before later.
          ap (λ (x : Flat). finally (task_done who (last old)) (part (moment_of (before ++ first ∷ []) (d.used ++ later) x))) (sym h)
          ∙ ap (finally (task_done who (last old))) (d.leads (before ++ first ∷ []) later)
          ∙ ap (λ (x : Flat). let q : Outcome = record { moment = moment_of (((before ++ first ∷ []) ++ d.course) ++ final ∷ []) later x; end = end } in q) (sym l)
          ∙ ap (λ (q : List Happened). let x : Outcome = record { moment = moment_of q later now; end = end } in x) (between-course before d.course first final);
      honest = subst (λ (q : List Asked). IsHonest d.used q o inner.outside) (asks-between d.course who (last old) inner.world) d.honest;
      left = left-append (IsWithinTask task who old) d.course (final ∷ []) now (inr l);
    }

-- and one that was cut short
between-cut : (who : ℕ) (task : Task) (last : Flat → Task) (part : Part) (old mid : Flat) (had : List Answered) (o : Outside) (new : UnderWay)
    → mid ≡ (task_row task who old).world → IsCutShort part (under_way mid had o) new
    → IsCutShort (λ m. finally (task_done who (last m.world)) (part (task_done who task m))) (under_way old had o) new
between-cut who task last part old mid had o new h d =
    let first : Happened = Began who task old in
    record {
      used = d.used;
      course = first ∷ d.course;
      begins = λ before.
          let whole : Part = λ m. finally (task_done who (last m.world)) (part (task_done who task m)) in
          let started : Moment = moment_of (before ++ first ∷ []) d.used mid in
          subst (λ (x : Flat). Begins (finally (task_done who (last old)) (part (moment_of (before ++ first ∷ []) d.used x))).moment.course (before ++ first ∷ d.course)) h
          (subst (λ (q : List Happened). Begins (finally (task_done who (last old)) (part started)).moment.course q) (append_assoc before (first ∷ []) d.course)
          (begins-behind ((before ++ first ∷ []) ++ d.course) (part started).moment.course (finally (task_done who (last old)) (part started)).moment.course (d.begins (before ++ first ∷ [])) (grows-finally who (last old) (part started))));
      honest = d.honest;
      left = left-begun who task old mid d.course new.world (inr h) d.left;
    }

pub between-ends : (who : ℕ) (task : Task) (last : Flat → Task) (part : Part) (ending : Ending) (old mid now : Flat) (had : List Answered) (o : Outside) (inner : UnderWay)
    → mid ≡ (task_row task who old).world → now ≡ (task_row (last old) who inner.world).world → Does part (under_way mid had o) inner (end_seen ending)
    → Does (λ m. finally (task_done who (last m.world)) (part (task_done who task m))) (under_way old had o) (under_way now inner.had inner.outside) (end_seen ending)
between-ends who task last part ending old mid now had o inner h l d = between-does who task last part (end_seen ending) old mid now had o inner h l d

pub between-stops : (who : ℕ) (task : Task) (last : Flat → Task) (part : Part) (old mid : Flat) (had : List Answered) (o : Outside) (new : UnderWay)
    → mid ≡ (task_row task who old).world → IsCutShort part (under_way mid had o) new
    → IsCutShort (λ m. finally (task_done who (last m.world)) (part (task_done who task m))) (under_way old had o) new
between-stops who task last part old mid had o new h d = between-cut who task last part old mid had o new h d

-- texts of which the second is run where the first one fails
pub try-as : (p : Place) (texts : TryTexts) (r : Result Ending AllocError) (old new : UnderWay) → PartEnds r (λ m. or_else (run_deeper Do p texts.first m) (run_deeper Do p texts.catching)) old new → PartEnds r (λ m. do_ask Do p (Try texts) m) old new
try-as p texts r old new d = d

pub try-fine : (p : Place) (texts : TryTexts) (old new : UnderWay) (ending : Ending) → ending ≡ code.Fine → Does (λ m. run_deeper Do p texts.first m) old new (end_seen ending) → Does (λ m. do_ask Do p (Try texts) m) old new Fine
try-fine p texts old new ending is d =
    try-as p texts (Ok code.Fine) old new
    (stops (λ o. or_else o (run_deeper Do p texts.catching)) (λ m. run_deeper Do p texts.first m) old new Fine (λ m. refl) (subst (λ e. Does (λ m. run_deeper Do p texts.first m) old new (end_seen e)) is d))

pub try-caught : (p : Place) (texts : TryTexts) (r : Result Ending AllocError) (old mid new : UnderWay) (ending : Ending) (fault : Fault) → ending ≡ code.Failed fault
    → Does (λ m. run_deeper Do p texts.first m) old mid (end_seen ending) → PartEnds r (λ m. run_deeper Do p texts.catching m) mid new → PartEnds r (λ m. do_ask Do p (Try texts) m) old new
try-caught p texts r old mid new ending fault is d n =
    try-as p texts r old new
    (behind-ends (λ o. or_else o (run_deeper Do p texts.catching)) (λ m. run_deeper Do p texts.first m) (λ m. run_deeper Do p texts.catching m) r old mid new (Failed fault) (λ m. refl)
    (subst (λ e. Does (λ m. run_deeper Do p texts.first m) old mid (end_seen e)) is d) n)

pub try-cut : (p : Place) (texts : TryTexts) (old new : UnderWay) → IsCutShort (λ m. run_deeper Do p texts.first m) old new → IsCutShort (λ m. do_ask Do p (Try texts) m) old new
try-cut p texts old new d =
    try-as p texts (Err alloc_error) old new
    (first-cut (λ o. or_else o (run_deeper Do p texts.catching)) (λ m. run_deeper Do p texts.first m) old new (λ o. grows-else o (run_deeper Do p texts.catching) (grows-deeper Do p texts.catching grows-do)) d)

pub try-given-up : (p : Place) (texts : TryTexts) (old new : UnderWay) (ending : Ending) (limit : Limit) → ending ≡ code.GivenUp limit → Does (λ m. run_deeper Do p texts.first m) old new (end_seen ending)
    → Does (λ m. do_ask Do p (Try texts) m) old new (GivenUp (limit_text limit))
try-given-up p texts old new ending limit is d =
    try-as p texts (Ok (code.GivenUp limit)) old new
    (stops (λ o. or_else o (run_deeper Do p texts.catching)) (λ m. run_deeper Do p texts.first m) old new (GivenUp (limit_text limit)) (λ m. refl) (subst (λ e. Does (λ m. run_deeper Do p texts.first m) old new (end_seen e)) is d))

-- a key by what it is mapped to, where it stands for itself, and where it stands for others
pub key-alone : (p : Place) (key : Key) (r : Result Ending AllocError) (old new : UnderWay) → keys_mapped p.who key old.world ≡ None → PartEnds r (λ m. strike Do p key m) old new → PartEnds r (λ m. play_key Do p true key m) old new
key-alone p key r old new none d =
    ends-at r (λ m. play_key Do p true key m) (λ m. strike Do p key m) old new (λ course answers. ap (λ (k : Option (List Key)). strike_mapped Do p k key (moment_of course answers old.world)) none) d

pub key-mapped : (p : Place) (key : Key) (keys : List Key) (r : Result Ending AllocError) (old new : UnderWay) → keys_mapped p.who key old.world ≡ Some keys → PartEnds r (λ m. nested p (λ q. each (strike Do q) keys) m) old new
    → PartEnds r (λ m. play_key Do p true key m) old new
key-mapped p key keys r old new some d =
    ends-at r (λ m. play_key Do p true key m) (λ m. nested p (λ q. each (strike Do q) keys) m) old new (λ course answers. ap (λ (k : Option (List Key)). strike_mapped Do p k key (moment_of course answers old.world)) some) d

-- keys for which maps aren't asked are run as they are
each-as : {A : Type 0} (f g : A → Part) → ((x : A) (m : Moment) → f x m ≡ g x m) → (xs : List A) (m : Moment) → each f xs m ≡ each g xs m
each-as f g h [] m = refl
each-as f g h (x ∷ xs) m = next-as (f x m).end (f x m).moment (each-as f g h xs) ∙ ap (λ (o : Outcome). and_then o (each g xs)) (h x m)
  where
    next-as : (e : DoingEnd) (n : Moment) → ((k : Moment) → each f xs k ≡ each g xs k) → next_after e (each f xs) n ≡ next_after e (each g xs) n
    next-as Fine n s = s n
    next-as (Failed fault) n s = refl
    next-as (GivenUp text) n s = refl

pub unmapped-ends : (p : Place) (maps : Bool) (keys : List Key) (r : Result Ending AllocError) (old new : UnderWay) → maps ≡ false → PartEnds r (λ m. each (strike Do p) keys m) old new → PartEnds r (λ m. each (play_key Do p maps) keys m) old new
unmapped-ends p maps keys r old new off d =
    ends-by r (λ m. each (play_key Do p maps) keys m) (λ m. each (strike Do p) keys m) old new
    (λ m. ap (λ b. each (play_key Do p b) keys m) off ∙ each-as (play_key Do p false) (strike Do p) (λ x n. refl) keys m) d

pub mapped-ends : (p : Place) (maps : Bool) (keys : List Key) (r : Result Ending AllocError) (old new : UnderWay) → maps ≡ true → PartEnds r (λ m. each (play_key Do p true) keys m) old new → PartEnds r (λ m. each (play_key Do p maps) keys m) old new
mapped-ends p maps keys r old new on d =
    ends-by r (λ m. each (play_key Do p maps) keys m) (λ m. each (play_key Do p true) keys m) old new (λ m. ap (λ b. each (play_key Do p b) keys m) on) d

-- a text, and items, that are others by name
pub text-ends : (p : Place) (said text : List ℕ) (r : Result Ending AllocError) (old new : UnderWay) → said ≡ text → PartEnds r (λ m. run_text Do p said m) old new → PartEnds r (λ m. run_text Do p text m) old new
text-ends p said text r old new e d = subst (λ (t : List ℕ). PartEnds r (λ m. run_text Do p t m) old new) e d

pub deeper-ends : (p : Place) (said text : List ℕ) (r : Result Ending AllocError) (old new : UnderWay) → said ≡ text → PartEnds r (λ m. run_deeper Do p said m) old new → PartEnds r (λ m. run_deeper Do p text m) old new
deeper-ends p said text r old new e d = subst (λ (t : List ℕ). PartEnds r (λ m. run_deeper Do p t m) old new) e d

pub items-end : {A : Type 0} (f : A → Part) (said xs : List A) (r : Result Ending AllocError) (old new : UnderWay) → said ≡ xs → PartEnds r (λ m. each f said m) old new → PartEnds r (λ m. each f xs m) old new
items-end f said xs r old new e d = subst (λ (ys : List _). PartEnds r (λ m. each f ys m) old new) e d

-- the hooks of what is due, in a place by another name
pub settle-ends : (said p : Place) (r : Result Ending AllocError) (old new : UnderWay) → said ≡ p → PartEnds r (λ m. settle Do said m) old new → PartEnds r (λ m. settle Do p m) old new
settle-ends said p r old new e d = subst (λ (x : Place). PartEnds r (λ m. settle Do x m) old new) e d

-- keys that are played in a place that may be quiet
pub quiet-ends : (said q : Place) (play : PlayKeys) (r : Result Ending AllocError) (old new : UnderWay) → said ≡ quiet_unless play.hooks q → PartEnds r (λ m. play_once Do said play m) old new → PartEnds r (λ m. play_once Do (quiet_unless play.hooks q) play m) old new
quiet-ends said q play r old new e d = subst (λ (x : Place). PartEnds r (λ m. play_once Do x play m) old new) e d

-- what is done to each of some items is tame
pub tame-command : (p : Place) (command : Command) → IsTame (run_command Do p command)
tame-command p command = record {
  joined = keeps-command KeepsJoined joined-carried Do (carried-do KeepsJoined joined-carried) p command;
  units = keeps-command TakesUnits units-carried Do (carried-do TakesUnits units-carried) p command;
  grows = grows-command Do p command grows-do;
}

pub tame-strike : (p : Place) (key : Key) → IsTame (strike Do p key)
tame-strike p key = record {
  joined = keeps-strike KeepsJoined joined-carried Do (carried-do KeepsJoined joined-carried) p key;
  units = keeps-strike TakesUnits units-carried Do (carried-do TakesUnits units-carried) p key;
  grows = grows-strike Do p key grows-do;
}

pub tame-key : (p : Place) (maps : Bool) (key : Key) → IsTame (play_key Do p maps key)
tame-key p maps key = record {
  joined = keeps-key KeepsJoined joined-carried Do (carried-do KeepsJoined joined-carried) p maps key;
  units = keeps-key TakesUnits units-carried Do (carried-do TakesUnits units-carried) p maps key;
  grows = grows-key Do p maps key grows-do;
}

pub tame-nested : (p : Place) (play : PlayKeys) → IsTame (λ m. play_nested Do p play m)
tame-nested p play = record {
  joined = keeps-played KeepsJoined joined-carried Do (carried-do KeepsJoined joined-carried) p play;
  units = keeps-played TakesUnits units-carried Do (carried-do TakesUnits units-carried) p play;
  grows = grows-played Do p play grows-do;
}

pub tame-hook : (p : Place) (parameter : List ℕ) (at : HookRef) → IsTame (run_hook Do p parameter at)
tame-hook p parameter at = record {
  joined = keeps-hook KeepsJoined joined-carried Do (carried-do KeepsJoined joined-carried) p parameter at;
  units = keeps-hook TakesUnits units-carried Do (carried-do TakesUnits units-carried) p parameter at;
  grows = grows-hook Do p parameter at grows-do;
}

pub tame-event : (p : Place) (event : HookEvent) → IsTame (run_event Do p event)
tame-event p event = record {
  joined = keeps-event KeepsJoined joined-carried Do (carried-do KeepsJoined joined-carried) p event;
  units = keeps-event TakesUnits units-carried Do (carried-do TakesUnits units-carried) p event;
  grows = grows-event Do p event grows-do;
}

pub tame-settle : (p : Place) → IsTame (settle Do p)
tame-settle p = record {
  joined = keeps-settle KeepsJoined joined-carried Do (carried-do KeepsJoined joined-carried) p;
  units = keeps-settle TakesUnits units-carried Do (carried-do TakesUnits units-carried) p;
  grows = grows-settle Do p grows-do;
}

pub tame-settled : (p : Place) (task : Task) → IsTame (task_settled Do p task)
tame-settled p task = record {
  joined = keeps-settled KeepsJoined joined-carried Do (carried-do KeepsJoined joined-carried) p task;
  units = keeps-settled TakesUnits units-carried Do (carried-do TakesUnits units-carried) p task;
  grows = grows-settled Do p task grows-do;
}

pub tame-taking : (p : Place) (task : Task) → IsTame (λ m. with_unit (run_task Do p task) m)
tame-taking p task = record {
  joined = keeps-unit KeepsJoined joined-carried (run_task Do p task) (keeps-task KeepsJoined joined-carried Do (carried-do KeepsJoined joined-carried) p task);
  units = keeps-unit TakesUnits units-carried (run_task Do p task) (keeps-task TakesUnits units-carried Do (carried-do TakesUnits units-carried) p task);
  grows = grows-taking Do p task grows-do;
}

-- a part behind a unit that was taken leaves fewer of them than there were
falls-taken : (left : ℕ) (part : Part) → Keeps TakesUnits part → Keeps (λ (a b : Flat). units_of a ≡ suc left → units_of b ≤ left) (λ m. with_unit part m)
falls-taken left part k m e =
    let begun : Flat = with_units left m.world in
    let few : units_of (part (in_world begun m)).moment.world ≤ left = subst (λ (n : ℕ). units_of (part (in_world begun m)).moment.world ≤ n) (units_units left m.world) (k (in_world begun m)) in
    subst (λ (n : ℕ). units_of (unit_of n part m).moment.world ≤ left) (sym e) few

pub fewer-taken : (p : Place) (task : Task) (left : ℕ) (end : DoingEnd) (old new : UnderWay) → Does (λ m. with_unit (run_task Do p task) m) old new end → units_of old.world ≡ suc left → units_of new.world < units_of old.world
fewer-taken p task left end old new d e =
    less (units_of old.world) left (units_of new.world) e
    (does-keeps (λ (a b : Flat). units_of a ≡ suc left → units_of b ≤ left) (λ m. with_unit (run_task Do p task) m) end old new d
    (falls-taken left (run_task Do p task) (keeps-task TakesUnits units-carried Do (carried-do TakesUnits units-carried) p task)) e)
  where
    less : (b c d : ℕ) → b ≡ suc c → d ≤ c → d < b
    less b c d e f = omega (arith, e, f)

pub tame-then : (first next : Part) → IsTame first → IsTame next → IsTame (λ m. and_then (first m) next)
tame-then first next a b = record {
  joined = keeps-then KeepsJoined joined-carried first next a.joined b.joined;
  units = keeps-then TakesUnits units-carried first next a.units b.units;
  grows = grows-both first next a.grows b.grows;
}

pub tame-deeper : (p : Place) (text : List ℕ) → IsTame (run_deeper Do p text)
tame-deeper p text = record {
  joined = keeps-deeper KeepsJoined joined-carried Do (carried-do KeepsJoined joined-carried) p text;
  units = keeps-deeper TakesUnits units-carried Do (carried-do TakesUnits units-carried) p text;
  grows = grows-deeper Do p text grows-do;
}

pub tame-each : {A : Type 0} (f : A → Part) → ((x : A) → IsTame (f x)) → (xs : List A) → IsTame (each f xs)
tame-each f tame xs = record {
  joined = keeps-each KeepsJoined joined-carried f (λ x. (tame x).joined) xs;
  units = keeps-each TakesUnits units-carried f (λ x. (tame x).units) xs;
  grows = grows-each f (λ x. (tame x).grows) xs;
}

-- one deeper the same client acts
pub acts-deeper : (p q : Place) (flat : Flat) → q ≡ deeper p → acts p.who flat ≡ true → acts q.who flat ≡ true
acts-deeper p q flat inner a = ap (λ (x : Place). acts x.who flat) inner ∙ a

-- behind what is tame a client acts still, and no unit came back
pub tame-acts : (who : ℕ) (part : Part) (end : DoingEnd) (old new : UnderWay) → IsTame part → Does part old new end → acts who old.world ≡ true → acts who new.world ≡ true
tame-acts who part end old new tame d a = acts_still who old.world new.world (does-keeps KeepsJoined part end old new d tame.joined) a

pub tame-fewer : (part : Part) (end : DoingEnd) (old new : UnderWay) → IsTame part → Does part old new end → units_of new.world ≤ units_of old.world
tame-fewer part end old new tame d = does-keeps TakesUnits part end old new d tame.units

-- and so it is behind a task that asks for nothing
pub task-acts : (who : ℕ) (task : Task) (old new : Flat) → new ≡ (task_row task who old).world → acts who old ≡ true → acts who new ≡ true
task-acts who task old new e a = ap (acts who) e ∙ acts_still who old (task_row task who old).world (joined-task task who old) a

pub task-fewer : (who : ℕ) (task : Task) (old new : Flat) → new ≡ (task_row task who old).world → units_of new ≤ units_of old
task-fewer who task old new e = subst (λ (f : Flat). units_of f ≤ units_of old) (sym e) (units-task task who old)

below : (a b c d : ℕ) → b ≤ a → c ≤ b → c ≡ suc d → d ≤ a
below a b c d e f g = omega (arith, e, f, g)

further : (a b c : ℕ) → b ≤ a → c ≤ b → c ≤ a
further a b c e f = omega (arith, e, f)

-- Keys were played, and as often more as the macro is to be run that they are: those that are played next lead on, no unit came back,
-- and the client acts still.
pub record ArePlayed (p : Place) (first play : PlayKeys) (start now : UnderWay) : Type 0 where
  pub leads : LeadsOn (λ m. do_ask Do p (Play play) m) (λ m. do_ask Do p (Play first) m) start now
  pub units : TakesUnits start.world now.world
  pub acts : acts p.who now.world ≡ true

pub none-played : (p : Place) (play : PlayKeys) (start : UnderWay) → acts p.who start.world ≡ true → ArePlayed p play play start start
none-played p play start a = record { leads = leads-first (λ m. do_ask Do p (Play play) m) start; units = units-same (units_of start.world); acts = a }
  where
    units-same : (n : ℕ) → n ≤ n
    units-same n = omega arith

module _ (p : Place) (first play : PlayKeys) (start now : UnderWay) (played : ArePlayed p first play start now) where
  pub play-cut : (new : UnderWay) → IsCutShort (λ m. play_nested Do p play m) now new → IsCutShort (λ m. do_ask Do p (Play first) m) start new
  play-cut new d = played.leads.ends (Err alloc_error) new (then-cut (λ m. play_nested Do p play m) (play_again Do p play.again) now new (grows-again Do p play.again grows-do) d)

  pub play-failed : (new : UnderWay) (ending : Ending) (fault : Fault) → ending ≡ code.Failed fault → Does (λ m. play_nested Do p play m) now new (end_seen ending) → Does (λ m. do_ask Do p (Play first) m) start new (Failed fault)
  play-failed new ending fault is d = played.leads.ends (Ok (code.Failed fault)) new (then-failed (λ m. play_nested Do p play m) (play_again Do p play.again) now new ending fault is d)

  pub play-given-up : (new : UnderWay) (ending : Ending) (limit : Limit) → ending ≡ code.GivenUp limit → Does (λ m. play_nested Do p play m) now new (end_seen ending) → Does (λ m. do_ask Do p (Play first) m) start new (GivenUp (limit_text limit))
  play-given-up new ending limit is d = played.leads.ends (Ok (code.GivenUp limit)) new (then-given-up (λ m. play_nested Do p play m) (play_again Do p play.again) now new ending limit is d)

  -- what comes behind the keys, which ended well
  module _ (mid : UnderWay) (ending : Ending) (is : ending ≡ code.Fine) (did : Does (λ m. play_nested Do p play m) now mid (end_seen ending)) where
    ends-again : (r : Result Ending AllocError) (new : UnderWay) → PartEnds r (λ m. play_again Do p play.again m) mid new → PartEnds r (λ m. do_ask Do p (Play first) m) start new
    ends-again r new d = played.leads.ends r new (then-fine (λ m. play_nested Do p play m) (play_again Do p play.again) r now mid new ending is did d)

    -- no macro is run once more
    pub play-over : play.again ≡ None → Does (λ m. do_ask Do p (Play first) m) start mid Fine
    play-over none =
        ends-again (Ok code.Fine) mid
        (does-alone (λ m. play_again Do p play.again m) mid.world mid.world mid.had mid.outside Fine refl (λ course answers. ap (λ (o : Option Macro). play_again Do p o (moment_of course answers mid.world)) none))

    module _ (again : Macro) (some : play.again ≡ Some again) where
      ends-macro : (r : Result Ending AllocError) (new : UnderWay) → PartEnds r (λ m. with_unit (run_task Do p (RunsMacro again)) m) mid new → PartEnds r (λ m. do_ask Do p (Play first) m) start new
      ends-macro r new d =
          ends-again r new (ends-by r (λ m. play_again Do p play.again m) (λ m. with_unit (run_task Do p (RunsMacro again)) m) mid new (λ m. ap (λ (o : Option Macro). play_again Do p o m) some) d)

      -- one is, and no unit is left
      pub play-spent : (left : Flat) → units_of mid.world ≡ 0 → left ≡ mid.world → Does (λ m. do_ask Do p (Play first) m) start (under_way left mid.had mid.outside) (GivenUp budget_spent)
      play-spent left none same =
          ends-macro (Ok (code.GivenUp Units)) (under_way left mid.had mid.outside)
          (does-alone (λ m. with_unit (run_task Do p (RunsMacro again)) m) mid.world left mid.had mid.outside (GivenUp budget_spent) same
          (λ course answers. unit-wanting (run_task Do p (RunsMacro again)) mid.world left course answers none same))

      module _ (before : Flat) (u : units_of mid.world ≡ suc (units_of before)) (w : before ≡ with_units (units_of before) mid.world) where
        -- what comes behind the row of the macro
        behind-macro : (row : Result Ask EditError) (r : Result Ending AllocError) (new : UnderWay) → GivesRow row before (row_macro again p.who before)
            → PartEnds r (λ m. go_on Do p (row_macro again p.who before) m) (under_way before mid.had mid.outside) new → PartEnds r (λ m. do_ask Do p (Play first) m) start new
        behind-macro row r new gives d = ends-macro r new (unit-task p (RunsMacro again) row r mid.world before before mid.had mid.outside new u w gives (λ e. refl) d)

        -- the macro is refused
        pub play-refused : (error : EditError) (r : Result Ending AllocError) (new : UnderWay) → GivesRow (Err error) before (row_macro again p.who before)
            → ((end : RowEnd) → GivesRow (Err error) before end → PartEnds r (λ m. go_on Do p end m) (under_way before mid.had mid.outside) new) → PartEnds r (λ m. do_ask Do p (Play first) m) start new
        play-refused error r new gives d = behind-macro (Err error) r new gives (d (row_macro again p.who before) gives)

        -- or its keys are played next, behind the hooks of what it did
        module _ (next : PlayKeys) (gives : GivesRow (Ok (Play next)) before (row_macro again p.who before)) where
          behind-next : (r : Result Ending AllocError) (new : UnderWay) → PartEnds r (λ m. and_then (settle Do p m) (do_ask Do p (Play next))) (under_way before mid.had mid.outside) new → PartEnds r (λ m. do_ask Do p (Play first) m) start new
          behind-next r new d =
              behind-macro (Ok (Play next)) r new gives
              (row-asks p (Play next) r before mid.had mid.outside new
              (ends-by r (λ m. Do p (Asks (Play next)) m) (λ m. and_then (settle Do p m) (do_ask Do p (Play next))) (under_way before mid.had mid.outside) new (λ m. Do-body p (Asks (Play next)) m) d) (row_macro again p.who before) gives)

          pub macro-cut : (new : UnderWay) → IsCutShort (λ m. settle Do p m) (under_way before mid.had mid.outside) new → IsCutShort (λ m. do_ask Do p (Play first) m) start new
          macro-cut new d = behind-next (Err alloc_error) new (then-cut (settle Do p) (do_ask Do p (Play next)) (under_way before mid.had mid.outside) new (grows-ask Do p (Play next) grows-do) d)

          pub macro-failed : (new : UnderWay) (ended : Ending) (fault : Fault) → ended ≡ code.Failed fault → Does (λ m. settle Do p m) (under_way before mid.had mid.outside) new (end_seen ended) → Does (λ m. do_ask Do p (Play first) m) start new (Failed fault)
          macro-failed new ended fault e d = behind-next (Ok (code.Failed fault)) new (then-failed (settle Do p) (do_ask Do p (Play next)) (under_way before mid.had mid.outside) new ended fault e d)

          pub macro-given-up : (new : UnderWay) (ended : Ending) (limit : Limit) → ended ≡ code.GivenUp limit → Does (λ m. settle Do p m) (under_way before mid.had mid.outside) new (end_seen ended)
              → Does (λ m. do_ask Do p (Play first) m) start new (GivenUp (limit_text limit))
          macro-given-up new ended limit e d = behind-next (Ok (code.GivenUp limit)) new (then-given-up (settle Do p) (do_ask Do p (Play next)) (under_way before mid.had mid.outside) new ended limit e d)

          pub play-more : (new : UnderWay) (ended : Ending) → ended ≡ code.Fine → Does (λ m. settle Do p m) (under_way before mid.had mid.outside) new (end_seen ended) → ArePlayed p first next start new
          play-more new ended e d = record {
            leads = record { ends = λ r last n. behind-next r last (then-fine (settle Do p) (do_ask Do p (Play next)) r (under_way before mid.had mid.outside) new last ended e d n) };
            units = further (units_of start.world) (units_of before) (units_of new.world)
                (below (units_of start.world) (units_of now.world) (units_of mid.world) (units_of before) played.units (does-keeps TakesUnits (λ m. play_nested Do p play m) (end_seen ending) now mid did (tame-nested p play).units) u)
                (does-keeps TakesUnits (settle Do p) (end_seen ended) (under_way before mid.had mid.outside) new d (tame-settle p).units);
            acts = acts_still p.who before new.world (does-keeps KeepsJoined (settle Do p) (end_seen ended) (under_way before mid.had mid.outside) new d (tame-settle p).joined)
                (unit-acts p.who mid.world before w
                (acts_still p.who now.world mid.world (does-keeps KeepsJoined (λ m. play_nested Do p play m) (end_seen ending) now mid did (tame-nested p play).joined) played.acts));
          }

-- the unit that was taken is one fewer than before, and none comes back behind that
pub fewer-left : (p : Place) (play : PlayKeys) (now mid new : UnderWay) (before : Flat) (had : List Answered) (o : Outside) (end ended : DoingEnd) → Does (λ m. play_nested Do p play m) now mid end → units_of mid.world ≡ suc (units_of before)
    → Does (λ m. settle Do p m) (under_way before had o) new ended → units_of new.world < units_of now.world
fewer-left p play now mid new before had o end ended did u d =
    less (units_of now.world) (units_of mid.world) (units_of before) (units_of new.world) (does-keeps TakesUnits (λ m. play_nested Do p play m) end now mid did (tame-nested p play).units) u
    (does-keeps TakesUnits (settle Do p) ended (under_way before had o) new d (tame-settle p).units)
  where
    less : (b c d e : ℕ) → c ≤ b → c ≡ suc d → e ≤ d → e < b
    less b c d e f g h = omega (arith, f, g, h)
