-- What is kept when a key event ends, when a client takes its list back or redoes it, and when it leaves.
use Rattle.std.proofs.Common.{◌≡◌, ℕ, ◌&&◌, true, false, not, ◌==◌, List, [], ◌∷◌, ◌++◌, map, cond, refl, sym, ap, ap₂, subst, ◌∙◌}
use Rattle.std.specs.Prelude.{Some, None}
use Rattle.std.specs.declared.option.Option.{Option}
use Rattle.std.specs.List.{AllByRecursion}
use Rattle.std.proofs.lemmas.Bool.{eqb-true, ne_eqb, eqb-false}
use Rattle.tables.proofs.TableLemmas.{by_test}
use Rattle.tables.proofs.RowLemmas.{AreApart, first-left, any-left}
use Rattle.selection_set.specs.Held.{selected}
use Rattle.list_model.specs.Ranges.{Selected}
use Rattle.change_list.specs.Logs.{Logged, stamp_of}
use Rattle.list_shelf.specs.declared.holder.Holder.{Holder}
use Rattle.list_shelf.specs.declared.holder.Holder.TheVariants.{Of}
use Rattle.list_shelf.specs.declared.lag.Lag.{Lag}
use Rattle.list_shelf.specs.declared.rows.ShelfRow.{ShelfRow}
use Rattle.list_shelf.specs.Lagging.{seen_by, up_to_date, Lags}
use Rattle.list_shelf.specs.Shelves.{same_holder, Shelved, is_of, has_row, no_row, unlisted, Stands}
use Rattle.list_shelf.proofs.LagLemmas.{seen-held, up-held, up-own, brought-lags, brought-seen}
use Rattle.list_archive.specs.declared.saved.Saved.{Saved}
use Rattle.list_archive.specs.declared.saved.Saved.TheVariants.{Nothing, Same, Own}
use Rattle.list_archive.specs.Limits.{fits, newest}
use Rattle.list_archive.specs.Trails.{Trail, Mark, trail_with, is_trail_of, trail_of, gone_on, left_off}
use Rattle.list_archive.specs.Kept.{SavedList, KeptLists, alike, newest_lists, saved_dropped, gone_on_from, saved_kept, saved_but, kept_without}
use Rattle.list_archive.specs.Archives.{Archived, own_lag, stored_size, newest_lags, alike_listed, unsaved, kept_from, saved_kept_in, saved_without, archived_without, list_in, saved_in, kept_in, SavedStands, ArchiveStands, KeptIs, TrailLags}
use Rattle.list_archive.proofs.LimitLemmas.{newest-seen}
use Rattle.list_archive.proofs.AlikeLemmas.{alike-self, alike-seen}
use Rattle.list_archive.proofs.StayLemmas.{own-lags, gone_on-made, trail-stands, put-stands, all-behind}

abbrev kept_by : Option SavedList → List (Trail Selected) → List (Mark Selected) → KeptLists
kept_by saved trails marks = record { saved = saved; trails = trails; marks = marks }

abbrev saved_list : ℕ → Selected → Option SavedList
saved_list who sels = Some (record { who = who; sels = sels })

-- some of the newest lists stand

newest-of : {A : Type 0} (P : A → Type 0) (size : A → ℕ) (xs : List A) → AllByRecursion P xs → AllByRecursion P (newest size xs)
newest-of P size [] a = a
newest-of P size (x ∷ []) a = a
newest-of P size (x ∷ y ∷ ys) a =
    by_test (λ b. AllByRecursion P (cond b (x ∷ y ∷ ys) (newest size (y ∷ ys)))) (fits size (x ∷ y ∷ ys))
    (λ _. a)
    (λ _. newest-of P size (y ∷ ys) a.1)

pub newest-stand : (text : List ℕ) (log : Logged) (lags : List Lag) → AllByRecursion (Lags text log) lags → AllByRecursion (Lags text log) (newest_lags log lags)
newest-stand text log lags a =
    by_test (λ b. AllByRecursion (Lags text log) (cond b lags (newest stored_size (map (up_to_date log) lags)))) (fits stored_size lags)
    (λ _. a)
    (λ _. newest-of (Lags text log) stored_size (map (up_to_date log) lags) (all-up lags a))
  where
    all-up : (xs : List Lag) → AllByRecursion (Lags text log) xs → AllByRecursion (Lags text log) (map (up_to_date log) xs)
    all-up [] h = tt
    all-up (x ∷ xs) h = (brought-lags text log x h.0, all-up xs h.1)

-- a client goes on from a list

pub gone_on-stands : (text : List ℕ) (log : Logged) (who : ℕ) (had : Lag) (ts : List (Trail Lag)) → Lags text log had → AllByRecursion (TrailLags text log) ts → AllByRecursion (TrailLags text log) (gone_on (newest_lags log) who had ts)
gone_on-stands text log who had ts l a =
    let t : TrailLags text log (trail_of who ts) = trail-stands text log who ts a in
    put-stands text log (record { who = who; past = newest_lags log ((trail_of who ts).past ++ had ∷ []); ahead = [] }) ts
    (newest-stand text log ((trail_of who ts).past ++ had ∷ []) (all-behind (Lags text log) (trail_of who ts).past had t.0 l), tt) a

pub gone_on-seen : (text : List ℕ) (log : Logged) (who : ℕ) (had : Lag) (ts : List (Trail Lag)) → Lags text log had → AllByRecursion (TrailLags text log) ts
    → map (trail_with (list_in text log)) (gone_on (newest_lags log) who had ts) ≡ gone_on newest_lists who (list_in text log had) (map (trail_with (list_in text log)) ts)
gone_on-seen text log who had ts l a =
    let t : TrailLags text log (trail_of who ts) = trail-stands text log who ts a in
    gone_on-made (list_in text log) (newest_lags log) newest_lists who had ts
    (newest-seen text log ((trail_of who ts).past ++ had ∷ []) (all-behind (Lags text log) (trail_of who ts).past had t.0 l))

-- the client's key event ends

abbrev went : Shelved → Archived → ℕ → Lag → Archived
went shelf a who lag = record { saved = Nothing; trails = gone_on (newest_lags shelf.log) who (up_to_date shelf.log lag) a.trails; marks = a.marks }

abbrev went_seen : List ℕ → Shelved → Archived → ℕ → Lag → KeptLists
went_seen text shelf a who lag = kept_by None (gone_on newest_lists who (list_in text shelf.log lag) (kept_in text shelf a).trails) (kept_in text shelf a).marks

went-is : (text : List ℕ) (shelf : Shelved) (a : Archived) (who : ℕ) (lag : Lag) → ArchiveStands text shelf a → Lags text shelf.log lag → KeptIs text shelf (went shelf a who lag) (went_seen text shelf a who lag)
went-is text shelf a who lag kept l = record {
  stands = record { saved = tt; trails = gone_on-stands text shelf.log who (up_to_date shelf.log lag) a.trails (brought-lags text shelf.log lag l) kept.trails; marks = kept.marks };
  is =
      ap (λ ts. kept_by None ts (kept_in text shelf a).marks)
      (gone_on-seen text shelf.log who (up_to_date shelf.log lag) a.trails (brought-lags text shelf.log lag l) kept.trails
      ∙ ap (λ s. gone_on newest_lists who (selected text s) (kept_in text shelf a).trails) (brought-seen text shelf.log lag l));
}

-- no list is saved any more
dropped-is : (text : List ℕ) (shelf : Shelved) (a : Archived) → ArchiveStands text shelf a → KeptIs text shelf (unsaved a) (saved_dropped (kept_in text shelf a))
dropped-is text shelf a kept = record { stands = record { saved = tt; trails = kept.trails; marks = kept.marks }; is = refl }

abbrev own_of : List ℕ → Shelved → ℕ → Selected
own_of text shelf who = list_in text shelf.log (own_lag who shelf)

kept-own : (text : List ℕ) (who n : ℕ) (lag : Lag) (shelf : Shelved) (a : Archived) → has_row (Of who) shelf ≡ true → (own_lag who shelf).stamp ≡ stamp_of shelf.log → Stands text shelf → ArchiveStands text shelf a → Lags text shelf.log lag
    → KeptIs text shelf (kept_from who shelf (Own n lag) (unsaved a)) (gone_on_from (saved_list n (list_in text shelf.log lag)) who (own_of text shelf who) (saved_dropped (kept_in text shelf a)))
kept-own text who n lag shelf a some up st kept l =
    let own : Lags text shelf.log (own_lag who shelf) = own-lags text who shelf some st in
    let as_it_is : own_of text shelf who ≡ selected text (own_lag who shelf).sels = ap (selected text) (up-own text shelf.log (own_lag who shelf) up own) in
    let test : alike (list_in text shelf.log lag) (own_of text shelf who) ≡ alike_listed (seen_by shelf.log lag) (own_lag who shelf).sels =
    ap (alike (list_in text shelf.log lag)) as_it_is ∙ alike-seen text (seen_by shelf.log lag) (own_lag who shelf).sels (seen-held text shelf.log lag l) (up-held text shelf.log (own_lag who shelf) up own) in
    subst (λ b. KeptIs text shelf (kept_from who shelf (Own n lag) (unsaved a)) (cond (n == who && not b) (went_seen text shelf a who lag) (saved_dropped (kept_in text shelf a)))) (sym test)
    (by_test (λ b. KeptIs text shelf (cond b (went shelf a who lag) (unsaved a)) (cond b (went_seen text shelf a who lag) (saved_dropped (kept_in text shelf a)))) (n == who && not (alike_listed (seen_by shelf.log lag) (own_lag who shelf).sels))
    (λ _. went-is text shelf a who lag kept l)
    (λ _. dropped-is text shelf a kept))

pub key-ends : (text : List ℕ) (who : ℕ) (shelf : Shelved) (a : Archived) → has_row (Of who) shelf ≡ true → (own_lag who shelf).stamp ≡ stamp_of shelf.log → Stands text shelf → ArchiveStands text shelf a
    → KeptIs text shelf (saved_kept_in who shelf a) (saved_kept who (own_of text shelf who) (kept_in text shelf a))
key-ends text who shelf a some up st kept = by a.saved kept.saved
  where
    by : (s : Saved) → SavedStands text shelf s → KeptIs text shelf (kept_from who shelf s (unsaved a)) (gone_on_from (saved_in text shelf s) who (own_of text shelf who) (saved_dropped (kept_in text shelf a)))
    by Nothing h = dropped-is text shelf a kept
    by (Same n) h =
        by_test (λ b. b ≡ (n == who) → KeptIs text shelf (unsaved a) (cond (b && not (alike (own_of text shelf n) (own_of text shelf who))) (kept_by None (gone_on newest_lists who (own_of text shelf n) (kept_in text shelf a).trails) (kept_in text shelf a).marks) (saved_dropped (kept_in text shelf a)))) (n == who)
        (λ _ e.
        let same : alike (own_of text shelf n) (own_of text shelf who) ≡ true = ap (λ k. alike (own_of text shelf k) (own_of text shelf who)) (eqb-true n who (sym e)) ∙ alike-self (own_of text shelf who) in
        subst (λ b. KeptIs text shelf (unsaved a) (cond (not b) (kept_by None (gone_on newest_lists who (own_of text shelf n) (kept_in text shelf a).trails) (kept_in text shelf a).marks) (saved_dropped (kept_in text shelf a)))) (sym same) (dropped-is text shelf a kept))
        (λ _ _. dropped-is text shelf a kept)
        refl
    by (Own n lag) h = kept-own text who n lag shelf a some up st kept h

-- a client leaves

others-apart : (who n : ℕ) → (n == who) ≡ false → AreApart (is_of (Of who)) (is_of (Of n))
others-apart who n apart row mine = by row.holder mine
  where
    by : (h : Holder) → same_holder (Of who) h ≡ true → same_holder (Of n) h ≡ false
    by (Of k) mine = ne_eqb k n (λ same. eqb-false n who apart (sym same ∙ eqb-true k who mine))

own-left : (who n : ℕ) (shelf : Shelved) → (n == who) ≡ false → own_lag n (unlisted (Of who) shelf) ≡ own_lag n shelf
own-left who n shelf apart = ap (λ (row : ShelfRow). row.lag) (first-left (is_of (Of who)) (is_of (Of n)) (no_row (Of n)) shelf.rows (others-apart who n apart))

has-left : (who n : ℕ) (shelf : Shelved) → (n == who) ≡ false → has_row (Of n) shelf ≡ true → has_row (Of n) (unlisted (Of who) shelf) ≡ true
has-left who n shelf apart some = any-left (is_of (Of who)) (is_of (Of n)) shelf.rows (others-apart who n apart) ∙ some

left-stands : (text : List ℕ) (log : Logged) (who : ℕ) (ts : List (Trail Lag)) → AllByRecursion (TrailLags text log) ts → AllByRecursion (TrailLags text log) (left_off who ts)
left-stands text log who [] a = tt
left-stands text log who (t ∷ ts) a =
    by_test (λ b. AllByRecursion (TrailLags text log) (cond (not b) (t ∷ left_off who ts) (left_off who ts))) (is_trail_of who t)
    (λ _. left-stands text log who ts a.1)
    (λ _. (a.0, left-stands text log who ts a.1))

left-made : {A B : Type 0} (f : A → B) (who : ℕ) (ts : List (Trail A)) → map (trail_with f) (left_off who ts) ≡ left_off who (map (trail_with f) ts)
left-made f who [] = refl
left-made f who (t ∷ ts) =
    by_test (λ b. map (trail_with f) (cond (not b) (t ∷ left_off who ts) (left_off who ts)) ≡ cond (not b) (trail_with f t ∷ left_off who (map (trail_with f) ts)) (left_off who (map (trail_with f) ts))) (is_trail_of who t)
    (λ _. left-made f who ts)
    (λ _. ap (λ ys. trail_with f t ∷ ys) (left-made f who ts))

pub leaving-keeps : (text : List ℕ) (who : ℕ) (shelf : Shelved) (a : Archived) → ArchiveStands text shelf a → KeptIs text (unlisted (Of who) shelf) (archived_without who a) (kept_without who (kept_in text shelf a))
leaving-keeps text who shelf a kept = record {
  stands = record { saved = (by a.saved kept.saved).0; trails = left-stands text shelf.log who a.trails kept.trails; marks = kept.marks };
  is = ap₂ (λ saved ts. kept_by saved ts (kept_in text shelf a).marks) (by a.saved kept.saved).1 (left-made (list_in text shelf.log) who a.trails);
}
  where
    by : (s : Saved) → SavedStands text shelf s → SavedStands text (unlisted (Of who) shelf) (saved_without who s) × (saved_in text (unlisted (Of who) shelf) (saved_without who s) ≡ saved_but who (saved_in text shelf s))
    by Nothing h = (tt, refl)
    by (Same n) h =
        by_test (λ b. b ≡ (n == who) → SavedStands text (unlisted (Of who) shelf) (cond b Nothing (Same n)) × (saved_in text (unlisted (Of who) shelf) (cond b Nothing (Same n)) ≡ cond b None (saved_list n (list_in text shelf.log (own_lag n shelf))))) (n == who)
        (λ _ _. (tt, refl))
        (λ _ e. (has-left who n shelf (sym e) h, ap (λ (lag : Lag). saved_list n (list_in text shelf.log lag)) (own-left who n shelf (sym e))))
        refl
    by (Own n lag) h =
        by_test (λ b. SavedStands text (unlisted (Of who) shelf) (cond b Nothing (Own n lag)) × (saved_in text (unlisted (Of who) shelf) (cond b Nothing (Own n lag)) ≡ cond b None (saved_list n (list_in text shelf.log lag)))) (n == who)
        (λ _. (tt, refl))
        (λ _. (h, refl))
