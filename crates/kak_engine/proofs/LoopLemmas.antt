-- How parts follow one another, and how items are done one after another.
use Rattle.std.proofs.Common.{◌≡◌, ℕ, ◌≤◌, ◌+◌, ◌<◌, true, List, [], ◌∷◌, ◌++◌, length, drop, get_or, refl, sym, ap, ◌∙◌, subst, arith, Ok, Err}
use Rattle.std.proofs.lemmas.List.{append_assoc, drop_more, drop_all}
use Rattle.std.specs.Prelude.{alloc_error}
use Rattle.std.specs.declared.result.Result.{Result}
use Rattle.std.specs.declared.alloc.AllocError.{AllocError}
use Rattle.kak_world.specs.declared.events.Fault.{Fault}
use Rattle.kak_world.specs.Dropping.{KeepsJoined}
use Rattle.kak_world.specs.Flat.{acts, units_of}
use Rattle.session_turns.specs.Growth.{Begins}
use Rattle.session_events.specs.declared.event.Answered.{Answered}
use Rattle.kak_engine.specs.declared.ending.Ending.{Ending}
use Rattle.kak_engine.specs.declared.ending.Ending.TheVariants as code
use Rattle.kak_engine.specs.declared.ending.Limit.{Limit}
use Rattle.kak_engine.specs.Course.{Happened, asks_in}
use Rattle.kak_engine.specs.Doing.{DoingEnd, Fine, Failed, GivenUp, Moment, Outcome, Part, and_then, and_also, end_still, ended_still, each}
use Rattle.kak_engine.specs.Seen.{Does, IsCutShort, PartEnds, end_seen, limit_text, moment_of, UnderWay}
use Rattle.kak_world.proofs.JoinedLemmas.{acts_still}
use Rattle.kak_engine.proofs.AskingLaws.{begins-behind, Grows, grows-then, grows-with-also, grows-each}
use Rattle.kak_engine.proofs.CarryingLaws.{Keeps}
use Rattle.kak_engine.proofs.EndLemmas.{does-alone, does-keeps}
use Rattle.kak_engine.specs.Asking.{Asked}
use Rattle.kak_engine.specs.Honesty.{Outside, IsHonest}
use Rattle.kak_engine.proofs.HonestLemmas.{honest-behind}
use Rattle.kak_engine.proofs.LeftLemmas.{left-behind, asks_in-append}
use Rattle.kak_engine.proofs.TaskLaws.{TakesUnits}

-- the outside was honest in what happened, and then in more
course-behind : (a b : List Answered) (d e : List Happened) (x y z : Outside) → IsHonest a (asks_in d) x y → IsHonest b (asks_in e) y z → IsHonest (a ++ b) (asks_in (d ++ e)) x z
course-behind a b d e x y z h k = subst (λ (q : List Asked). IsHonest (a ++ b) q x z) (sym (asks_in-append d e)) (honest-behind a b (asks_in d) (asks_in e) x y z h k)

-- one part, and what comes behind it by how it ended
pub behind-does : (k : Outcome → Outcome) (first next : Part) (old mid new : UnderWay) (first_end end : DoingEnd) → ((m : Moment) → k (record { moment = m; end = first_end }) ≡ next m)
    → Does first old mid first_end → Does next mid new end → Does (λ m. k (first m)) old new end
behind-does k first next old mid new first_end end h d e = record {
  used = d.used ++ e.used;
  course = d.course ++ e.course;
  kept = e.kept ∙ ap (λ (q : List Answered). q ++ e.used) d.kept ∙ append_assoc old.had d.used e.used;
  leads = λ before later.
      ap (λ (q : List Answered). k (first (moment_of before q old.world))) (append_assoc d.used e.used later)
      ∙ ap k (d.leads before (e.used ++ later))
      ∙ h (moment_of (before ++ d.course) (e.used ++ later) mid.world)
      ∙ e.leads (before ++ d.course) later
      ∙ ap (λ (q : List Happened). let o : Outcome = record { moment = moment_of q later new.world; end = end } in o) (append_assoc before d.course e.course);
  honest = course-behind d.used e.used d.course e.course old.outside mid.outside new.outside d.honest e.honest;
  left = left-behind old.world mid.world d.course e.course new.world d.left e.left;
}

behind-cut : (k : Outcome → Outcome) (first next : Part) (old mid new : UnderWay) (first_end : DoingEnd) → ((m : Moment) → k (record { moment = m; end = first_end }) ≡ next m)
    → Does first old mid first_end → IsCutShort next mid new → IsCutShort (λ m. k (first m)) old new
behind-cut k first next old mid new first_end h d e = record {
  used = d.used ++ e.used;
  course = d.course ++ e.course;
  begins = λ before.
      subst (λ (o : Outcome). Begins o.moment.course (before ++ (d.course ++ e.course))) (sym (ap k (d.leads before e.used) ∙ h (moment_of (before ++ d.course) e.used mid.world)))
      (subst (λ (q : List Happened). Begins (next (moment_of (before ++ d.course) e.used mid.world)).moment.course q) (append_assoc before d.course e.course) (e.begins (before ++ d.course)));
  honest = course-behind d.used e.used d.course e.course old.outside mid.outside new.outside d.honest e.honest;
  left = left-behind old.world mid.world d.course e.course new.world d.left e.left;
}

pub behind-ends : (k : Outcome → Outcome) (first next : Part) (r : Result Ending AllocError) (old mid new : UnderWay) (first_end : DoingEnd) → ((m : Moment) → k (record { moment = m; end = first_end }) ≡ next m)
    → Does first old mid first_end → PartEnds r next mid new → PartEnds r (λ m. k (first m)) old new
behind-ends k first next (Ok e) old mid new first_end h d n = behind-does k first next old mid new first_end (end_seen e) h d n
behind-ends k first next (Err e) old mid new first_end h d n = behind-cut k first next old mid new first_end h d n

-- one that was cut short, behind which nothing comes
pub first-cut : (k : Outcome → Outcome) (first : Part) (old new : UnderWay) → ((o : Outcome) → Begins (k o).moment.course o.moment.course) → IsCutShort first old new → IsCutShort (λ m. k (first m)) old new
first-cut k first old new g d = record {
  used = d.used;
  course = d.course;
  begins = λ before.
      let o : Outcome = first (moment_of before d.used old.world) in
      begins-behind (before ++ d.course) o.moment.course (k o).moment.course (d.begins before) (g o);
  honest = d.honest;
  left = d.left;
}

-- one behind which nothing comes, by how it ended
pub stops : (k : Outcome → Outcome) (first : Part) (old new : UnderWay) (end : DoingEnd) → ((m : Moment) → k (record { moment = m; end = end }) ≡ record { moment = m; end = end }) → Does first old new end → Does (λ m. k (first m)) old new end
stops k first old new end h d = record {
  used = d.used;
  course = d.course;
  kept = d.kept;
  leads = λ before later. ap k (d.leads before later) ∙ h (moment_of (before ++ d.course) later new.world);
  honest = d.honest;
  left = d.left;
}

-- one part after another, by how the first one ended
pub then-fine : (first next : Part) (r : Result Ending AllocError) (old mid new : UnderWay) (ending : Ending) → ending ≡ code.Fine → Does first old mid (end_seen ending) → PartEnds r next mid new → PartEnds r (λ m. and_then (first m) next) old new
then-fine first next r old mid new ending is d n = behind-ends (λ o. and_then o next) first next r old mid new Fine (λ m. refl) (subst (λ e. Does first old mid (end_seen e)) is d) n

pub then-failed : (first next : Part) (old new : UnderWay) (ending : Ending) (fault : Fault) → ending ≡ code.Failed fault → Does first old new (end_seen ending) → Does (λ m. and_then (first m) next) old new (Failed fault)
then-failed first next old new ending fault is d = stops (λ o. and_then o next) first old new (Failed fault) (λ m. refl) (subst (λ e. Does first old new (end_seen e)) is d)

pub then-given-up : (first next : Part) (old new : UnderWay) (ending : Ending) (limit : Limit) → ending ≡ code.GivenUp limit → Does first old new (end_seen ending) → Does (λ m. and_then (first m) next) old new (GivenUp (limit_text limit))
then-given-up first next old new ending limit is d = stops (λ o. and_then o next) first old new (GivenUp (limit_text limit)) (λ m. refl) (subst (λ e. Does first old new (end_seen e)) is d)

pub then-cut : (first next : Part) (old new : UnderWay) → Grows next → IsCutShort first old new → IsCutShort (λ m. and_then (first m) next) old new
then-cut first next old new g d = first-cut (λ o. and_then o next) first old new (λ o. grows-then o next g) d

-- a part whose own end counts only where it was given up
still-does : (first : DoingEnd) (part : Part) (old new : UnderWay) (end : DoingEnd) → Does part old new end → Does (λ m. ended_still first (part m)) old new (end_still first end)
still-does first part old new end d = record { used = d.used; course = d.course; kept = d.kept; leads = λ before later. ap (ended_still first) (d.leads before later); honest = d.honest; left = d.left }

still-cut : (first : DoingEnd) (part : Part) (old new : UnderWay) → IsCutShort part old new → IsCutShort (λ m. ended_still first (part m)) old new
still-cut first part old new d = record { used = d.used; course = d.course; begins = λ before. d.begins before; honest = d.honest; left = d.left }

-- one part after another, unless the first one was given up, of which the first one's error stands: by how `k` goes on behind it
pub also-does : (k : Outcome → Outcome) (first next : Part) (old mid new : UnderWay) (first_end : DoingEnd) (ending heard result : Ending) → end_seen ending ≡ first_end → ((m : Moment) → k (record { moment = m; end = first_end }) ≡ ended_still first_end (next m))
    → Does first old mid (end_seen ending) → Does next mid new (end_seen heard) → end_seen result ≡ end_still first_end (end_seen heard) → Does (λ m. k (first m)) old new (end_seen result)
also-does k first next old mid new first_end ending heard result is h d n e =
    subst (λ q. Does (λ m. k (first m)) old new q) (sym e)
    (behind-does k first (λ m. ended_still first_end (next m)) old mid new first_end (end_still first_end (end_seen heard)) h (subst (λ q. Does first old mid q) is d) (still-does first_end next mid new (end_seen heard) n))

pub also-cut : (k : Outcome → Outcome) (first next : Part) (old mid new : UnderWay) (first_end : DoingEnd) (ending : Ending) → end_seen ending ≡ first_end → ((m : Moment) → k (record { moment = m; end = first_end }) ≡ ended_still first_end (next m))
    → Does first old mid (end_seen ending) → IsCutShort next mid new → IsCutShort (λ m. k (first m)) old new
also-cut k first next old mid new first_end ending is h d n =
    behind-cut k first (λ m. ended_still first_end (next m)) old mid new first_end h (subst (λ q. Does first old mid q) is d) (still-cut first_end next mid new n)

-- A part is under way: where the rest of it ends so from here on, the whole does from the start.
pub record LeadsOn (rest whole : Part) (start now : UnderWay) : Type 0 where
  pub ends : (r : Result Ending AllocError) (new : UnderWay) → PartEnds r rest now new → PartEnds r whole start new

pub leads-first : (whole : Part) (start : UnderWay) → LeadsOn whole whole start start
leads-first whole start = record { ends = λ r new d. d }

-- A part keeps the clients, takes no unit back, and more happens in it.
pub record IsTame (part : Part) : Type 0 where
  pub joined : Keeps KeepsJoined part
  pub units : Keeps TakesUnits part
  pub grows : Grows part

-- So many of some items were done, and ended well: the others lead on, no unit came back, and the client acts still.
pub record AreDone {A : Type 0} (who : ℕ) (f : A → Part) (xs : List A) (count : ℕ) (start now : UnderWay) : Type 0 where
  pub leads : LeadsOn (each f (drop count xs)) (each f xs) start now
  pub units : TakesUnits start.world now.world
  pub acts : acts who now.world ≡ true

pub none-done : {A : Type 0} (who : ℕ) (f : A → Part) (xs : List A) (start : UnderWay) → acts who start.world ≡ true → AreDone who f xs 0 start start
none-done who f xs start a = record { leads = leads-first (each f xs) start; units = units-same (units_of start.world); acts = a }
  where
    units-same : (n : ℕ) → n ≤ n
    units-same n = omega arith

next-of : {A : Type 0} (xs : List A) (i : ℕ) (d x : A) → x ≡ get_or xs i d → i < length xs → drop i xs ≡ x ∷ drop (i + 1) xs
next-of xs i d x is lt = drop_more xs i d lt ∙ ap (λ y. y ∷ drop (i + 1) xs) (sym is)

-- the first of the items that are left, which ended well
leads-more : {A : Type 0} (f : A → Part) (x : A) (xs ys : List A) (whole : Part) (start now mid : UnderWay) → ys ≡ x ∷ xs → LeadsOn (each f ys) whole start now → Does (f x) now mid Fine → LeadsOn (each f xs) whole start mid
leads-more f x xs ys whole start now mid e l d = record {
  ends = λ r new rest. l.ends r new (subst (λ (q : List _). PartEnds r (each f q) now new) (sym e) (behind-ends (λ o. and_then o (each f xs)) (f x) (each f xs) r now mid new Fine (λ m. refl) d rest));
}

pub one-more : {A : Type 0} (who : ℕ) (f : A → Part) (tame : (x : A) → IsTame (f x)) (xs : List A) (i : ℕ) (d x : A) (start now mid : UnderWay) (ending : Ending) → x ≡ get_or xs i d → i < length xs → AreDone who f xs i start now → ending ≡ code.Fine
    → Does (f x) now mid (end_seen ending) → AreDone who f xs (i + 1) start mid
one-more who f tame xs i d x start now mid ending is lt a fine did =
    let well : Does (f x) now mid Fine = subst (λ e. Does (f x) now mid (end_seen e)) fine did in
    record {
      leads = leads-more f x (drop (i + 1) xs) (drop i xs) (each f xs) start now mid (next-of xs i d x is lt) a.leads well;
      units = below (units_of start.world) (units_of now.world) (units_of mid.world) a.units (does-keeps TakesUnits (f x) Fine now mid well (tame x).units);
      acts = acts_still who now.world mid.world (does-keeps KeepsJoined (f x) Fine now mid well (tame x).joined) a.acts;
    }
  where
    below : (a b c : ℕ) → b ≤ a → c ≤ b → c ≤ a
    below a b c e f = omega (arith, e, f)

-- an item that failed, or was given up
pub one-failed : {A : Type 0} (who : ℕ) (f : A → Part) (xs : List A) (i : ℕ) (d x : A) (start now new : UnderWay) (ending : Ending) (fault : Fault) → x ≡ get_or xs i d → i < length xs → AreDone who f xs i start now → ending ≡ code.Failed fault
    → Does (f x) now new (end_seen ending) → Does (each f xs) start new (Failed fault)
one-failed who f xs i d x start now new ending fault is lt a failed did =
    a.leads.ends (Ok (code.Failed fault)) new
    (subst (λ (q : List _). Does (each f q) now new (Failed fault)) (sym (next-of xs i d x is lt))
    (stops (λ o. and_then o (each f (drop (i + 1) xs))) (f x) now new (Failed fault) (λ m. refl) (subst (λ e. Does (f x) now new (end_seen e)) failed did)))

pub one-given-up : {A : Type 0} (who : ℕ) (f : A → Part) (xs : List A) (i : ℕ) (d x : A) (start now new : UnderWay) (ending : Ending) (limit : Limit) → x ≡ get_or xs i d → i < length xs → AreDone who f xs i start now → ending ≡ code.GivenUp limit
    → Does (f x) now new (end_seen ending) → Does (each f xs) start new (GivenUp (limit_text limit))
one-given-up who f xs i d x start now new ending limit is lt a spent did =
    a.leads.ends (Ok (code.GivenUp limit)) new
    (subst (λ (q : List _). Does (each f q) now new (GivenUp (limit_text limit))) (sym (next-of xs i d x is lt))
    (stops (λ o. and_then o (each f (drop (i + 1) xs))) (f x) now new (GivenUp (limit_text limit)) (λ m. refl) (subst (λ e. Does (f x) now new (end_seen e)) spent did)))

-- one that was cut short
pub one-cut : {A : Type 0} (who : ℕ) (f : A → Part) (tame : (x : A) → IsTame (f x)) (xs : List A) (i : ℕ) (d x : A) (start now new : UnderWay) → x ≡ get_or xs i d → i < length xs → AreDone who f xs i start now → IsCutShort (f x) now new
    → IsCutShort (each f xs) start new
one-cut who f tame xs i d x start now new is lt a cut =
    a.leads.ends (Err alloc_error) new
    (subst (λ (q : List _). IsCutShort (each f q) now new) (sym (next-of xs i d x is lt))
    (first-cut (λ o. and_then o (each f (drop (i + 1) xs))) (f x) now new (λ o. grows-then o (each f (drop (i + 1) xs)) (grows-each f (λ y. (tame y).grows) (drop (i + 1) xs))) cut))

-- no item is left
pub all-done : {A : Type 0} (who : ℕ) (f : A → Part) (xs : List A) (i : ℕ) (start now : UnderWay) → length xs ≤ i → AreDone who f xs i start now → Does (each f xs) start now Fine
all-done who f xs i start now le a =
    a.leads.ends (Ok code.Fine) now
    (subst (λ (q : List _). Does (each f q) now now Fine) (sym (drop_all i xs le)) (does-alone (each f []) now.world now.world now.had now.outside Fine refl (λ course answers. refl)))
