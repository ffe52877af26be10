-- What is kept when a client takes its list back or redoes it, and the marks of registers.
use Rattle.std.proofs.Common.{◌≡◌, ℕ, zero, suc, ◌-◌, true, not, List, [], ◌∷◌, ◌++◌, length, map, take, drop, cond, refl, sym, ap, ap₂, ◌∙◌}
use Rattle.std.specs.Prelude.{Some, slice_get, option_map, find}
use Rattle.std.specs.declared.option.Option.{Option}
use Rattle.std.specs.List.{AllByRecursion}
use Rattle.std.proofs.lemmas.List.{length-map, map-append}
use Rattle.tables.proofs.TableLemmas.{by_test}
use Rattle.selection_set.specs.Held.{selected}
use Rattle.list_model.specs.Ranges.{Selected}
use Rattle.change_list.specs.Logs.{Logged}
use Rattle.list_shelf.specs.declared.holder.Holder.TheVariants.{Of}
use Rattle.list_shelf.specs.declared.lag.Lag.{Lag}
use Rattle.list_shelf.specs.Lagging.{Lags}
use Rattle.list_shelf.specs.Shelves.{Shelved, has_row, with_lag_of, Stands}
use Rattle.list_shelf.proofs.LagLemmas.{brought-lags, brought-seen}
use Rattle.list_archive.specs.Trails.{Trail, Mark, trail_with, mark_with, trail_of, with_trail, last_before, next_ahead, gone_back, gone_forward, is_mark_of, mark_of, marked, unmarked}
use Rattle.list_archive.specs.Kept.{SavedList, KeptLists, newest_lists}
use Rattle.list_archive.specs.Archives.{Archived, own_lag, own_up, newest_lags, list_in, kept_in, IsApart, ArchiveStands, KeptIs, TrailLags}
use Rattle.list_archive.proofs.LimitLemmas.{newest-seen}
use Rattle.list_archive.proofs.StayLemmas.{own-lags, stays-apart, trail-made, put-made, trail-stands, put-stands, all-behind}
use Rattle.list_archive.proofs.KeepLemmas.{newest-stand}

abbrev kept_by : Option SavedList → List (Trail Selected) → List (Mark Selected) → KeptLists
kept_by saved trails marks = record { saved = saved; trails = trails; marks = marks }

abbrev trail_by : {A : Type 0} → ℕ → List A → List A → Trail A
trail_by who past ahead = record { who = who; past = past; ahead = ahead }

-- parts of lists

get-made : {A B : Type 0} (f : A → B) (xs : List A) (n : ℕ) → slice_get (map f xs) n ≡ option_map f (slice_get xs n)
get-made f [] n = refl
get-made f (x ∷ xs) zero = refl
get-made f (x ∷ xs) (suc n) = get-made f xs n

take-made : {A B : Type 0} (f : A → B) (xs : List A) (n : ℕ) → map f (take n xs) ≡ take n (map f xs)
take-made f xs zero = refl
take-made f [] (suc n) = refl
take-made f (x ∷ xs) (suc n) = ap (λ ys. f x ∷ ys) (take-made f xs n)

drop-made : {A B : Type 0} (f : A → B) (xs : List A) (n : ℕ) → map f (drop n xs) ≡ drop n (map f xs)
drop-made f xs zero = refl
drop-made f [] (suc n) = refl
drop-made f (x ∷ xs) (suc n) = drop-made f xs n

take-stand : {A : Type 0} (P : A → Type 0) (xs : List A) (n : ℕ) → AllByRecursion P xs → AllByRecursion P (take n xs)
take-stand P xs zero a = tt
take-stand P [] (suc n) a = tt
take-stand P (x ∷ xs) (suc n) a = (a.0, take-stand P xs n a.1)

drop-stand : {A : Type 0} (P : A → Type 0) (xs : List A) (n : ℕ) → AllByRecursion P xs → AllByRecursion P (drop n xs)
drop-stand P xs zero a = a
drop-stand P [] (suc n) a = tt
drop-stand P (x ∷ xs) (suc n) a = drop-stand P xs n a.1

-- what comes before and lies ahead, as it is seen

pub before-seen : {A B : Type 0} (f : A → B) (who : ℕ) (ts : List (Trail A)) → last_before who (map (trail_with f) ts) ≡ option_map f (last_before who ts)
before-seen {B = B} f who ts =
    ap (λ (t : Trail B). slice_get t.past (length t.past - 1)) (trail-made f who ts)
    ∙ ap (λ n. slice_get (map f (trail_of who ts).past) (n - 1)) (length-map (trail_of who ts).past f)
    ∙ get-made f (trail_of who ts).past (length (trail_of who ts).past - 1)

pub ahead-seen : {A B : Type 0} (f : A → B) (who : ℕ) (ts : List (Trail A)) → next_ahead who (map (trail_with f) ts) ≡ option_map f (next_ahead who ts)
ahead-seen {B = B} f who ts = ap (λ (t : Trail B). slice_get t.ahead 0) (trail-made f who ts) ∙ get-made f (trail_of who ts).ahead 0

-- going back and forward

back-made : {A B : Type 0} (f : A → B) (who : ℕ) (had : A) (ts : List (Trail A)) → map (trail_with f) (gone_back who had ts) ≡ gone_back who (f had) (map (trail_with f) ts)
back-made {B = B} f who had ts =
    put-made f (trail_by who (take (length (trail_of who ts).past - 1) (trail_of who ts).past) (had ∷ (trail_of who ts).ahead)) ts
    ∙ ap (λ past. with_trail (trail_by who past (f had ∷ map f (trail_of who ts).ahead)) (map (trail_with f) ts)) (take-made f (trail_of who ts).past (length (trail_of who ts).past - 1))
    ∙ ap (λ n. with_trail (trail_by who (take (n - 1) (map f (trail_of who ts).past)) (f had ∷ map f (trail_of who ts).ahead)) (map (trail_with f) ts)) (sym (length-map (trail_of who ts).past f))
    ∙ ap (λ (t : Trail B). with_trail (trail_by who (take (length t.past - 1) t.past) (f had ∷ t.ahead)) (map (trail_with f) ts)) (sym (trail-made f who ts))

forward-made : {A B : Type 0} (f : A → B) (keep : List A → List A) (keep_made : List B → List B) (who : ℕ) (had : A) (ts : List (Trail A)) → map f (keep ((trail_of who ts).past ++ had ∷ [])) ≡ keep_made (map f ((trail_of who ts).past ++ had ∷ []))
    → map (trail_with f) (gone_forward keep who had ts) ≡ gone_forward keep_made who (f had) (map (trail_with f) ts)
forward-made {B = B} f keep keep_made who had ts e =
    put-made f (trail_by who (keep ((trail_of who ts).past ++ had ∷ [])) (drop 1 (trail_of who ts).ahead)) ts
    ∙ ap₂ (λ past ahead. with_trail (trail_by who past ahead) (map (trail_with f) ts)) (e ∙ ap keep_made (map-append f (trail_of who ts).past (had ∷ []))) (drop-made f (trail_of who ts).ahead 1)
    ∙ ap (λ (t : Trail B). with_trail (trail_by who (keep_made (t.past ++ f had ∷ [])) (drop 1 t.ahead)) (map (trail_with f) ts)) (sym (trail-made f who ts))

pub back-keeps : (text : List ℕ) (who : ℕ) (lag : Lag) (shelf : Shelved) (a : Archived) → has_row (Of who) shelf ≡ true → IsApart who a.saved → Stands text shelf → ArchiveStands text shelf a
    → KeptIs text (with_lag_of (Of who) lag shelf) (record { saved = a.saved; trails = gone_back who (own_lag who shelf) a.trails; marks = a.marks })
    (kept_by (kept_in text shelf a).saved (gone_back who (list_in text shelf.log (own_lag who shelf)) (kept_in text shelf a).trails) (kept_in text shelf a).marks)
back-keeps text who lag shelf a some apart st kept =
    let stays : KeptIs text (with_lag_of (Of who) lag shelf) a (kept_in text shelf a) = stays-apart text who (λ had. lag) shelf a some apart st kept in
    let t : TrailLags text shelf.log (trail_of who a.trails) = trail-stands text shelf.log who a.trails kept.trails in
    record {
      stands = record {
        saved = stays.stands.saved;
        trails = put-stands text shelf.log (trail_by who (take (length (trail_of who a.trails).past - 1) (trail_of who a.trails).past) (own_lag who shelf ∷ (trail_of who a.trails).ahead)) a.trails
            (take-stand (Lags text shelf.log) (trail_of who a.trails).past (length (trail_of who a.trails).past - 1) t.0, (own-lags text who shelf some st, t.1)) kept.trails;
        marks = kept.marks;
      };
      is = ap₂ (λ saved ts. kept_by saved ts (kept_in text shelf a).marks) (ap (λ (k : KeptLists). k.saved) stays.is) (back-made (list_in text shelf.log) who (own_lag who shelf) a.trails);
    }

pub forward-keeps : (text : List ℕ) (who : ℕ) (lag : Lag) (shelf : Shelved) (a : Archived) → has_row (Of who) shelf ≡ true → IsApart who a.saved → Stands text shelf → ArchiveStands text shelf a
    → KeptIs text (with_lag_of (Of who) lag shelf) (record { saved = a.saved; trails = gone_forward (newest_lags shelf.log) who (own_lag who shelf) a.trails; marks = a.marks })
    (kept_by (kept_in text shelf a).saved (gone_forward newest_lists who (list_in text shelf.log (own_lag who shelf)) (kept_in text shelf a).trails) (kept_in text shelf a).marks)
forward-keeps text who lag shelf a some apart st kept =
    let stays : KeptIs text (with_lag_of (Of who) lag shelf) a (kept_in text shelf a) = stays-apart text who (λ had. lag) shelf a some apart st kept in
    let t : TrailLags text shelf.log (trail_of who a.trails) = trail-stands text shelf.log who a.trails kept.trails in
    let all : AllByRecursion (Lags text shelf.log) ((trail_of who a.trails).past ++ own_lag who shelf ∷ []) = all-behind (Lags text shelf.log) (trail_of who a.trails).past (own_lag who shelf) t.0 (own-lags text who shelf some st) in
    record {
      stands = record {
        saved = stays.stands.saved;
        trails = put-stands text shelf.log (trail_by who (newest_lags shelf.log ((trail_of who a.trails).past ++ own_lag who shelf ∷ [])) (drop 1 (trail_of who a.trails).ahead)) a.trails
            (newest-stand text shelf.log ((trail_of who a.trails).past ++ own_lag who shelf ∷ []) all, drop-stand (Lags text shelf.log) (trail_of who a.trails).ahead 1 t.1) kept.trails;
        marks = kept.marks;
      };
      is = ap₂ (λ saved ts. kept_by saved ts (kept_in text shelf a).marks) (ap (λ (k : KeptLists). k.saved) stays.is)
          (forward-made (list_in text shelf.log) (newest_lags shelf.log) newest_lists who (own_lag who shelf) a.trails (newest-seen text shelf.log ((trail_of who a.trails).past ++ own_lag who shelf ∷ []) all));
    }

-- marks

mark-made : {A B : Type 0} (f : A → B) (register : ℕ) (list : A) (ms : List (Mark A)) → map (mark_with f) (marked register list ms) ≡ marked register (f list) (map (mark_with f) ms)
mark-made f register list [] = refl
mark-made f register list (m ∷ ms) =
    by_test (λ b. map (mark_with f) (cond b (record { register = register; list = list } ∷ ms) (m ∷ marked register list ms)) ≡ cond b (record { register = register; list = f list } ∷ map (mark_with f) ms) (mark_with f m ∷ marked register (f list) (map (mark_with f) ms))) (is_mark_of register m)
    (λ _. refl)
    (λ _. ap (λ ys. mark_with f m ∷ ys) (mark-made f register list ms))

unmark-made : {A B : Type 0} (f : A → B) (register : ℕ) (ms : List (Mark A)) → map (mark_with f) (unmarked register ms) ≡ unmarked register (map (mark_with f) ms)
unmark-made f register [] = refl
unmark-made f register (m ∷ ms) =
    by_test (λ b. map (mark_with f) (cond (not b) (m ∷ unmarked register ms) (unmarked register ms)) ≡ cond (not b) (mark_with f m ∷ unmarked register (map (mark_with f) ms)) (unmarked register (map (mark_with f) ms))) (is_mark_of register m)
    (λ _. unmark-made f register ms)
    (λ _. ap (λ ys. mark_with f m ∷ ys) (unmark-made f register ms))

pub mark-seen : {A B : Type 0} (f : A → B) (register : ℕ) (ms : List (Mark A)) → mark_of register (map (mark_with f) ms) ≡ option_map f (mark_of register ms)
mark-seen f register [] = refl
mark-seen f register (m ∷ ms) =
    by_test (λ b. option_map (λ x. x.list) (cond b (Some (mark_with f m)) (find (is_mark_of register) (map (mark_with f) ms))) ≡ option_map f (option_map (λ x. x.list) (cond b (Some m) (find (is_mark_of register) ms)))) (is_mark_of register m)
    (λ _. refl)
    (λ _. mark-seen f register ms)

mark-stands : (text : List ℕ) (log : Logged) (register : ℕ) (lag : Lag) (ms : List (Mark Lag)) → Lags text log lag → AllByRecursion (λ (m : Mark Lag). Lags text log m.list) ms → AllByRecursion (λ (m : Mark Lag). Lags text log m.list) (marked register lag ms)
mark-stands text log register lag [] l a = (l, tt)
mark-stands text log register lag (m ∷ ms) l a =
    by_test (λ b. AllByRecursion (λ (x : Mark Lag). Lags text log x.list) (cond b (record { register = register; list = lag } ∷ ms) (m ∷ marked register lag ms))) (is_mark_of register m)
    (λ _. (l, a.1))
    (λ _. (a.0, mark-stands text log register lag ms l a.1))

unmark-stands : (text : List ℕ) (log : Logged) (register : ℕ) (ms : List (Mark Lag)) → AllByRecursion (λ (m : Mark Lag). Lags text log m.list) ms → AllByRecursion (λ (m : Mark Lag). Lags text log m.list) (unmarked register ms)
unmark-stands text log register [] a = tt
unmark-stands text log register (m ∷ ms) a =
    by_test (λ b. AllByRecursion (λ (x : Mark Lag). Lags text log x.list) (cond (not b) (m ∷ unmarked register ms) (unmarked register ms))) (is_mark_of register m)
    (λ _. unmark-stands text log register ms a.1)
    (λ _. (a.0, unmark-stands text log register ms a.1))

pub marking-keeps : (text : List ℕ) (who register : ℕ) (shelf : Shelved) (a : Archived) → has_row (Of who) shelf ≡ true → Stands text shelf → ArchiveStands text shelf a
    → KeptIs text shelf (record { saved = a.saved; trails = a.trails; marks = marked register (own_up who shelf) a.marks }) (kept_by (kept_in text shelf a).saved (kept_in text shelf a).trails (marked register (list_in text shelf.log (own_lag who shelf)) (kept_in text shelf a).marks))
marking-keeps text who register shelf a some st kept =
    let l : Lags text shelf.log (own_lag who shelf) = own-lags text who shelf some st in
    record {
      stands = record { saved = kept.saved; trails = kept.trails; marks = mark-stands text shelf.log register (own_up who shelf) a.marks (brought-lags text shelf.log (own_lag who shelf) l) kept.marks };
      is = ap (kept_by (kept_in text shelf a).saved (kept_in text shelf a).trails)
          (mark-made (list_in text shelf.log) register (own_up who shelf) a.marks
          ∙ ap (λ s. marked register (selected text s) (kept_in text shelf a).marks) (brought-seen text shelf.log (own_lag who shelf) l));
    }

pub unmarking-keeps : (text : List ℕ) (register : ℕ) (shelf : Shelved) (a : Archived) → ArchiveStands text shelf a
    → KeptIs text shelf (record { saved = a.saved; trails = a.trails; marks = unmarked register a.marks }) (kept_by (kept_in text shelf a).saved (kept_in text shelf a).trails (unmarked register (kept_in text shelf a).marks))
unmarking-keeps text register shelf a kept = record {
  stands = record { saved = kept.saved; trails = kept.trails; marks = unmark-stands text shelf.log register a.marks kept.marks };
  is = ap (kept_by (kept_in text shelf a).saved (kept_in text shelf a).trails) (unmark-made (list_in text shelf.log) register a.marks);
}
