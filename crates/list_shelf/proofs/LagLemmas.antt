-- A list that lags, as what it is seen as.
use Rattle.std.proofs.Common.{◌≡◌, ℕ, zero, suc, ◌≤◌, ◌-◌, ◌+◌, List, [], ◌∷◌, ◌++◌, length, drop, refl, sym, ap, subst, ◌∙◌, arith}
use Rattle.std.proofs.Math.Seq.{drop-length}
use Rattle.std.proofs.lemmas.List.{length-append, length-drop, drop-append-le}
use Rattle.text_model.specs.declared.coords.Shift.{Shift}
use Rattle.text_model.specs.Texts.{IsStored}
use Rattle.text_model.specs.Changes.{Change, changed, all_changed, move_of, IsShift}
use Rattle.selection_set.specs.Held.{selected, IsHeld}
use Rattle.selection_map.specs.Catching.{AreShiftsOf, IsCatchable, eager_by, IsCaughtUpBy}
use Rattle.selection_map.proofs.StepLemmas.{changes-catchable, shifts-more, eager_by-append}
use Rattle.change_list.specs.Logs.{Logged, stamp_of, fresh, pushed, trimmed}
use Rattle.list_shelf.specs.declared.lag.Lag.{Lag}
use Rattle.list_shelf.specs.Lagging.{since, caught, seen_by, up_to_date, renewed, gone_through, Lags}
use Rattle.list_shelf.proofs.CaughtLemmas.{caught-is, caught-none, caught-parts, stored-behind}

-- what it is seen as

pub seen-caught : (text : List ℕ) (log : Logged) (lag : Lag) (l : Lags text log lag) → IsCaughtUpBy l.old l.changes lag.sels (seen_by log lag)
seen-caught text log lag l = caught-is l.old l.changes (since log lag.stamp) lag.sels l.stored l.shifts_are l.held

pub seen-held : (text : List ℕ) (log : Logged) (lag : Lag) → Lags text log lag → IsHeld text (seen_by log lag)
seen-held text log lag l = subst (λ t. IsHeld t (seen_by log lag)) l.text_is (seen-caught text log lag l).held

pub seen-is : (text : List ℕ) (log : Logged) (lag : Lag) (l : Lags text log lag) → selected text (seen_by log lag) ≡ eager_by l.old l.changes (selected l.old lag.sels)
seen-is text log lag l = ap (λ t. selected t (seen_by log lag)) (sym l.text_is) ∙ (seen-caught text log lag l).moved

pub lags-stored : (text : List ℕ) (log : Logged) (lag : Lag) → Lags text log lag → IsStored text
lags-stored text log lag l = subst IsStored l.text_is (stored-behind l.old l.changes (since log lag.stamp) l.stored l.shifts_are)

pub lags-catchable : (text : List ℕ) (log : Logged) (lag : Lag) → Lags text log lag → IsCatchable (since log lag.stamp) lag.sels
lags-catchable text log lag l = changes-catchable l.old l.changes (since log lag.stamp) lag.sels l.stored l.shifts_are l.held

-- a list that stands at the log's stamp

since-end : (log : Logged) → since log (stamp_of log) ≡ []
since-end log = let e : stamp_of log - log.first ≡ length log.shifts = omega arith in ap (λ n. drop n log.shifts) e ∙ drop-length log.shifts

since-up : (log : Logged) (stamp : ℕ) → stamp ≡ stamp_of log → since log stamp ≡ []
since-up log stamp e = ap (since log) e ∙ since-end log

pub up-lags : (text : List ℕ) (log : Logged) (lag : Lag) → IsStored text → lag.stamp ≡ stamp_of log → IsHeld text lag.sels → Lags text log lag
up-lags text log lag h e held = record {
  old = text;
  changes = [];
  stored = h;
  shifts_are = subst (AreShiftsOf text []) (sym (since-up log lag.stamp e)) tt;
  text_is = refl;
  held = held;
  first = omega (arith, e);
  last = omega (arith, e);
}

pub up-seen : (text : List ℕ) (log : Logged) (lag : Lag) → IsStored text → lag.stamp ≡ stamp_of log → IsHeld text lag.sels → seen_by log lag ≡ lag.sels
up-seen text log lag h e held = ap (λ ss. caught ss lag.sels) (since-up log lag.stamp e) ∙ caught-none text lag.sels h held

up-old : (old : List ℕ) (cs : List Change) (ss : List Shift) → ss ≡ [] → AreShiftsOf old cs ss → all_changed old cs ≡ old
up-old old [] [] e k = refl
up-old old [] (s ∷ ss) e k = refl
up-old old (c ∷ cs) [] e k = absurd k
up-old old (c ∷ cs) (s ∷ ss) e k = absurd (let f : suc (length ss) ≡ length {A = Shift} [] = ap length e in omega arith)

pub up-held : (text : List ℕ) (log : Logged) (lag : Lag) → lag.stamp ≡ stamp_of log → Lags text log lag → IsHeld text lag.sels
up-held text log lag e l = subst (λ t. IsHeld t lag.sels) (sym (up-old l.old l.changes (since log lag.stamp) (since-up log lag.stamp e) l.shifts_are) ∙ l.text_is) l.held

pub up-own : (text : List ℕ) (log : Logged) (lag : Lag) → lag.stamp ≡ stamp_of log → Lags text log lag → seen_by log lag ≡ lag.sels
up-own text log lag e l = up-seen text log lag (lags-stored text log lag l) e (up-held text log lag e l)

-- it is brought up to date, also for a log that begins again

pub brought-lags : (text : List ℕ) (log : Logged) (lag : Lag) → Lags text log lag → Lags text log (up_to_date log lag)
brought-lags text log lag l = up-lags text log (up_to_date log lag) (lags-stored text log lag l) refl (seen-held text log lag l)

pub brought-seen : (text : List ℕ) (log : Logged) (lag : Lag) → Lags text log lag → seen_by log (up_to_date log lag) ≡ seen_by log lag
brought-seen text log lag l = up-seen text log (up_to_date log lag) (lags-stored text log lag l) refl (seen-held text log lag l)

pub renewed-lags : (text : List ℕ) (log : Logged) (lag : Lag) → Lags text log lag → Lags text fresh (renewed log lag)
renewed-lags text log lag l = up-lags text fresh (renewed log lag) (lags-stored text log lag l) refl (seen-held text log lag l)

pub renewed-seen : (text : List ℕ) (log : Logged) (lag : Lag) → Lags text log lag → seen_by fresh (renewed log lag) ≡ seen_by log lag
renewed-seen text log lag l = up-seen text fresh (renewed log lag) (lags-stored text log lag l) refl (seen-held text log lag l)

-- and goes through shifts that no log holds

pub gone-caught : (text : List ℕ) (cs : List Change) (ss : List Shift) (log : Logged) (lag : Lag) → AreShiftsOf text cs ss → Lags text log lag → IsCaughtUpBy text cs (seen_by log lag) (caught ss (seen_by log lag))
gone-caught text cs ss log lag k l = caught-is text cs ss (seen_by log lag) (lags-stored text log lag l) k (seen-held text log lag l)

pub gone-lags : (text : List ℕ) (cs : List Change) (ss : List Shift) (log : Logged) (lag : Lag) → AreShiftsOf text cs ss → Lags text log lag → Lags (all_changed text cs) fresh (gone_through ss (renewed log lag))
gone-lags text cs ss log lag k l = up-lags (all_changed text cs) fresh (gone_through ss (renewed log lag)) (stored-behind text cs ss (lags-stored text log lag l) k) refl (gone-caught text cs ss log lag k l).held

pub gone-seen : (text : List ℕ) (cs : List Change) (ss : List Shift) (log : Logged) (lag : Lag) → AreShiftsOf text cs ss → Lags text log lag → selected (all_changed text cs) (seen_by fresh (gone_through ss (renewed log lag))) ≡ eager_by text cs (selected text (seen_by log lag))
gone-seen text cs ss log lag k l =
    ap (selected (all_changed text cs)) (up-seen (all_changed text cs) fresh (gone_through ss (renewed log lag)) (stored-behind text cs ss (lags-stored text log lag l) k) refl (gone-caught text cs ss log lag k l).held)
    ∙ (gone-caught text cs ss log lag k l).moved

-- one shift more is noted

since-more : (log : Logged) (stamp : ℕ) (s : Shift) → log.first ≤ stamp → stamp ≤ stamp_of log → since (pushed log s) stamp ≡ since log stamp ++ s ∷ []
since-more log stamp s f l = drop-append-le (stamp - log.first) log.shifts (s ∷ []) (omega (arith, f, l))

change-more : (old text : List ℕ) (cs : List Change) (c : Change) → all_changed old cs ≡ text → all_changed old (cs ++ c ∷ []) ≡ changed text c
change-more old text [] c e = ap (λ t. changed t c) e
change-more old text (d ∷ cs) c e = change-more (changed old d) text cs c e

pub noted-lags : (text : List ℕ) (log : Logged) (lag : Lag) (c : Change) (s : Shift) → IsStored (changed text c) → IsShift text (changed text c) s (move_of text c) → Lags text log lag → Lags (changed text c) (pushed log s) lag
noted-lags text log lag c s h i l =
    let Q : List ℕ → Type 0 = λ t. IsStored (changed t c) in
    let R : List ℕ → Type 0 = λ t. IsShift t (changed t c) s (move_of t c) in
    record {
      old = l.old;
      changes = l.changes ++ c ∷ [];
      stored = l.stored;
      shifts_are = subst (AreShiftsOf l.old (l.changes ++ c ∷ [])) (sym (since-more log lag.stamp s l.first l.last)) (shifts-more l.old l.changes (since log lag.stamp) c s l.shifts_are (subst Q (sym l.text_is) h) (subst R (sym l.text_is) i));
      text_is = change-more l.old text l.changes c l.text_is;
      held = l.held;
      first = l.first;
      last = omega (arith, l.last, length-append log.shifts (s ∷ []));
    }

pub noted-seen : (text : List ℕ) (log : Logged) (lag : Lag) (c : Change) (s : Shift) → IsStored (changed text c) → IsShift text (changed text c) s (move_of text c) → Lags text log lag
    → selected (changed text c) (seen_by (pushed log s) lag) ≡ eager_by text (c ∷ []) (selected text (seen_by log lag))
unfolding noted-lags
noted-seen text log lag c s h i l =
    seen-is (changed text c) (pushed log s) lag (noted-lags text log lag c s h i l)
    ∙ eager_by-append l.old l.changes (c ∷ []) (selected l.old lag.sels)
    ∙ ap (λ t. eager_by t (c ∷ []) (eager_by l.old l.changes (selected l.old lag.sels))) l.text_is
    ∙ ap (eager_by text (c ∷ [])) (sym (seen-is text log lag l))

-- noted first or not, the shifts to come lead to the same list
pub noted-gone : (text : List ℕ) (c : Change) (cs : List Change) (s : Shift) (ss : List Shift) (log : Logged) (lag : Lag) → AreShiftsOf text (c ∷ cs) (s ∷ ss) → Lags text log lag → caught ss (seen_by (pushed log s) lag) ≡ caught (s ∷ ss) (seen_by log lag)
noted-gone text c cs s ss log lag k l =
    let more : Lags (changed text c) (pushed log s) lag = noted-lags text log lag c s k.0 k.1 l in
    let seen : seen_by (pushed log s) lag ≡ caught (s ∷ []) (seen_by log lag) =
    ap (λ ts. caught ts lag.sels) (since-more log lag.stamp s l.first l.last)
    ∙ sym (caught-parts l.old l.changes (c ∷ []) (since log lag.stamp) (s ∷ []) lag.sels l.stored l.shifts_are (subst (λ t. AreShiftsOf t (c ∷ []) (s ∷ [])) (sym l.text_is) (k.0, k.1, tt)) l.held) in
    ap (caught ss) seen ∙ caught-parts text (c ∷ []) cs (s ∷ []) ss (seen_by log lag) (lags-stored text log lag l) (k.0, k.1, tt) k.2 (seen-held text log lag l)

-- shifts before its stamp are dropped

drop-drop : (a b : ℕ) (ss : List Shift) → drop b (drop a ss) ≡ drop (a + b) ss
drop-drop zero b ss = let e : b ≡ 0 + b = omega arith in ap (λ n. drop n ss) e
drop-drop (suc a) zero [] = let e : suc a + 0 ≡ suc (a + 0) = omega arith in ap (λ n. drop {A = Shift} n []) (sym e)
drop-drop (suc a) (suc b) [] = let e : suc a + suc b ≡ suc (a + suc b) = omega arith in ap (λ n. drop {A = Shift} n []) (sym e)
drop-drop (suc a) b (s ∷ ss) = let e : suc (a + b) ≡ suc a + b = omega arith in drop-drop a b ss ∙ ap (λ n. drop n (s ∷ ss)) e

since-trimmed : (log : Logged) (to stamp : ℕ) → log.first ≤ to → to ≤ stamp → since (trimmed log to) stamp ≡ since log stamp
since-trimmed log to stamp f l = let e : (to - log.first) + (stamp - to) ≡ stamp - log.first = omega (arith, f, l) in drop-drop (to - log.first) (stamp - to) log.shifts ∙ ap (λ n. drop n log.shifts) e

pub trimmed-seen : (log : Logged) (to : ℕ) (lag : Lag) → log.first ≤ to → to ≤ lag.stamp → seen_by (trimmed log to) lag ≡ seen_by log lag
trimmed-seen log to lag f l = ap (λ ss. caught ss lag.sels) (since-trimmed log to lag.stamp f l)

pub trimmed-lags : (text : List ℕ) (log : Logged) (to : ℕ) (lag : Lag) → log.first ≤ to → to ≤ lag.stamp → to ≤ stamp_of log → Lags text log lag → Lags text (trimmed log to) lag
trimmed-lags text log to lag f l m h = record {
  old = h.old;
  changes = h.changes;
  stored = h.stored;
  shifts_are = subst (AreShiftsOf h.old h.changes) (sym (since-trimmed log to lag.stamp f l)) h.shifts_are;
  text_is = h.text_is;
  held = h.held;
  first = l;
  last = omega (arith, h.last, m, f, length-drop (to - log.first) log.shifts);
}
