-- What is kept when a client's list is saved, changed, and kept.
use Rattle.std.proofs.Common.{◌≡◌, ℕ, ◌||◌, true, false, ◌==◌, List, [], ◌∷◌, ◌++◌, map, cond, refl, sym, ap, subst, ◌∙◌}
use Rattle.std.specs.declared.option.Option.{Option}
use Rattle.std.specs.Prelude.{Some}
use Rattle.std.specs.List.{AllByRecursion, list_any}
use Rattle.std.proofs.lemmas.Bool.{eqb-true}
use Rattle.std.proofs.lemmas.List.{map-append}
use Rattle.tables.specs.Tables.{first_where}
use Rattle.tables.proofs.TableLemmas.{by_test}
use Rattle.tables.proofs.RowLemmas.{any-changed, first-changed, first-map}
use Rattle.selection_set.specs.Held.{selected}
use Rattle.list_model.specs.Ranges.{Selected}
use Rattle.change_list.specs.Logs.{Logged}
use Rattle.list_shelf.specs.declared.holder.Holder.{Holder}
use Rattle.list_shelf.specs.declared.holder.Holder.TheVariants.{Of}
use Rattle.list_shelf.specs.declared.lag.Lag.{Lag}
use Rattle.list_shelf.specs.declared.rows.ShelfRow.{ShelfRow}
use Rattle.list_shelf.specs.Lagging.{Lags}
use Rattle.list_shelf.specs.Shelves.{Shelved, is_of, has_row, no_row, with_lag, changed_for, AllLag, Stands}
use Rattle.list_shelf.proofs.LagLemmas.{brought-lags, brought-seen}
use Rattle.list_shelf.proofs.StoreLemmas.{others-stay}
use Rattle.list_archive.specs.declared.saved.Saved.{Saved}
use Rattle.list_archive.specs.declared.saved.Saved.TheVariants.{Nothing, Same, Own}
use Rattle.list_archive.specs.Trails.{Trail, Mark, trail_with, is_trail_of, no_trail, trail_of, with_trail, gone_on}
use Rattle.list_archive.specs.Kept.{SavedList, KeptLists}
use Rattle.list_archive.specs.Archives.{Archived, own_lag, own_up, is_had_by, parted, left_saved, left_by, list_in, saved_in, kept_in, SavedStands, ArchiveStands, IsApart, KeptIs, TrailLags}

abbrev kept_by : Option SavedList → List (Trail Selected) → List (Mark Selected) → KeptLists
kept_by saved trails marks = record { saved = saved; trails = trails; marks = marks }

abbrev saved_list : ℕ → Selected → Option SavedList
saved_list who sels = Some (record { who = who; sels = sels })

-- a client's list on a shelf

lag-in : (text : List ℕ) (log : Logged) (holder : Holder) (none : ShelfRow) (rows : List ShelfRow) → list_any (is_of holder) rows ≡ true → AllLag text log rows → Lags text log (first_where (is_of holder) none rows).lag
lag-in text log holder none [] some a = absurd (let no : false ≡ true = some in cc)
lag-in text log holder none (row ∷ rows) some a =
    by_test (λ b. (b || list_any (is_of holder) rows) ≡ true → Lags text log (cond b row (first_where (is_of holder) none rows)).lag) (is_of holder row)
    (λ _ _. a.0)
    (λ _ some. lag-in text log holder none rows some a.1)
    some

pub own-lags : (text : List ℕ) (who : ℕ) (shelf : Shelved) → has_row (Of who) shelf ≡ true → Stands text shelf → Lags text shelf.log (own_lag who shelf)
own-lags text who shelf some st = lag-in text shelf.log (Of who) (no_row (Of who)) shelf.rows some st

-- where a client's list is changed
own-new : (who : ℕ) (f : Lag → Lag) (shelf : Shelved) → has_row (Of who) shelf ≡ true → own_lag who (changed_for (Of who) f shelf) ≡ f (own_lag who shelf)
own-new who f shelf some = ap (λ (row : ShelfRow). row.lag) (first-changed (is_of (Of who)) (with_lag f) (no_row (Of who)) shelf.rows (λ row. refl) some)

own-other : (who n : ℕ) (f : Lag → Lag) (shelf : Shelved) → (n == who) ≡ false → own_lag n (changed_for (Of who) f shelf) ≡ own_lag n shelf
own-other who n f shelf apart = ap (λ (row : ShelfRow). row.lag) (others-stay (Of who) (Of n) f shelf apart)

has-changed : (who n : ℕ) (f : Lag → Lag) (shelf : Shelved) → has_row (Of n) shelf ≡ true → has_row (Of n) (changed_for (Of who) f shelf) ≡ true
has-changed who n f shelf some = any-changed (is_of (Of who)) (is_of (Of n)) (with_lag f) shelf.rows (λ row. refl) ∙ some

-- a client gets another list

abbrev after : ℕ → (Lag → Lag) → Shelved → Shelved
after who f shelf = changed_for (Of who) f shelf

pub left-keeps : (text : List ℕ) (who : ℕ) (f : Lag → Lag) (shelf : Shelved) (a : Archived) → has_row (Of who) shelf ≡ true → Stands text shelf → ArchiveStands text shelf a
    → KeptIs text (changed_for (Of who) f shelf) (left_by who (own_lag who shelf) a) (kept_in text shelf a)
left-keeps text who f shelf a some st kept = record {
  stands = record { saved = (by a.saved kept.saved).0; trails = kept.trails; marks = kept.marks };
  is = ap (λ saved. kept_by saved (kept_in text shelf a).trails (kept_in text shelf a).marks) (by a.saved kept.saved).1;
}
  where
    by : (s : Saved) → SavedStands text shelf s → SavedStands text (after who f shelf) (left_saved who (own_lag who shelf) s) × (saved_in text (after who f shelf) (left_saved who (own_lag who shelf) s) ≡ saved_in text shelf s)
    by Nothing h = (tt, refl)
    by (Same n) h =
        by_test (λ b. b ≡ (n == who) → SavedStands text (after who f shelf) (cond b (Own who (own_lag who shelf)) (Same n)) × (saved_in text (after who f shelf) (cond b (Own who (own_lag who shelf)) (Same n)) ≡ saved_list n (list_in text shelf.log (own_lag n shelf)))) (n == who)
        (λ _ e. (own-lags text who shelf some st, ap (λ k. saved_list k (list_in text shelf.log (own_lag k shelf))) (sym (eqb-true n who (sym e)))))
        (λ _ e. (has-changed who n f shelf h, ap (λ (lag : Lag). saved_list n (list_in text shelf.log lag)) (own-other who n f shelf (sym e))))
        refl
    by (Own n lag) h = (h, refl)

-- a saved list that isn't one that the client has still is left alone
apart-left : (who : ℕ) (had : Lag) (s : Saved) → IsApart who s → left_saved who had s ≡ s
apart-left who had s h = ap (λ b. cond b (Own who had) s) h

pub stays-apart : (text : List ℕ) (who : ℕ) (f : Lag → Lag) (shelf : Shelved) (a : Archived) → has_row (Of who) shelf ≡ true → IsApart who a.saved → Stands text shelf → ArchiveStands text shelf a → KeptIs text (changed_for (Of who) f shelf) a (kept_in text shelf a)
stays-apart text who f shelf a some apart st kept =
    subst (λ s. KeptIs text (changed_for (Of who) f shelf) (record { saved = s; trails = a.trails; marks = a.marks }) (kept_in text shelf a)) (apart-left who (own_lag who shelf) a.saved apart) (left-keeps text who f shelf a some st kept)

-- the saved list is one of its own

pub parted-keeps : (text : List ℕ) (who : ℕ) (shelf : Shelved) (a : Archived) → Stands text shelf → ArchiveStands text shelf a → KeptIs text shelf (parted who shelf a) (kept_in text shelf a) × IsApart who (parted who shelf a).saved
parted-keeps text who shelf a st kept =
    let p : SavedStands text shelf (parted who shelf a).saved × ((saved_in text shelf (parted who shelf a).saved ≡ saved_in text shelf a.saved) × IsApart who (parted who shelf a).saved) = by a.saved kept.saved in (
      record {
        stands = record { saved = p.0; trails = kept.trails; marks = kept.marks };
        is = ap (λ saved. kept_by saved (kept_in text shelf a).trails (kept_in text shelf a).marks) p.1.0;
      },
      p.1.1,
    )
  where
    by : (s : Saved) → SavedStands text shelf s
        → SavedStands text shelf (cond (is_had_by who s) (Own who (own_up who shelf)) s) × ((saved_in text shelf (cond (is_had_by who s) (Own who (own_up who shelf)) s) ≡ saved_in text shelf s) × IsApart who (cond (is_had_by who s) (Own who (own_up who shelf)) s))
    by Nothing h = (tt, (refl, refl))
    by (Same n) h =
        by_test (λ b. b ≡ (n == who) → SavedStands text shelf (cond b (Own who (own_up who shelf)) (Same n)) × ((saved_in text shelf (cond b (Own who (own_up who shelf)) (Same n)) ≡ saved_list n (list_in text shelf.log (own_lag n shelf))) × IsApart who (cond b (Own who (own_up who shelf)) (Same n)))) (n == who)
        (λ _ e.
        let is : n ≡ who = eqb-true n who (sym e) in
        let l : Lags text shelf.log (own_lag who shelf) = subst (λ k. Lags text shelf.log (own_lag k shelf)) is (own-lags text n shelf h st) in (
          brought-lags text shelf.log (own_lag who shelf) l,
          (ap (λ s. saved_list who (selected text s)) (brought-seen text shelf.log (own_lag who shelf) l) ∙ ap (λ k. saved_list k (list_in text shelf.log (own_lag k shelf))) (sym is), refl),
        ))
        (λ _ e. (h, (refl, sym e)))
        refl
    by (Own n lag) h = (h, (refl, refl))

-- trails whose lists are made others

pub trail-made : {A B : Type 0} (f : A → B) (who : ℕ) (ts : List (Trail A)) → trail_of who (map (trail_with f) ts) ≡ trail_with f (trail_of who ts)
trail-made f who ts = first-map (is_trail_of who) (trail_with f) (no_trail who) ts

pub put-made : {A B : Type 0} (f : A → B) (t : Trail A) (ts : List (Trail A)) → map (trail_with f) (with_trail t ts) ≡ with_trail (trail_with f t) (map (trail_with f) ts)
put-made f t [] = refl
put-made f t (x ∷ xs) =
    by_test (λ b. map (trail_with f) (cond b (t ∷ xs) (x ∷ with_trail t xs)) ≡ cond b (trail_with f t ∷ map (trail_with f) xs) (trail_with f x ∷ with_trail (trail_with f t) (map (trail_with f) xs))) (is_trail_of t.who x)
    (λ _. refl)
    (λ _. ap (λ ys. trail_with f x ∷ ys) (put-made f t xs))

abbrev trail_by : {A : Type 0} → ℕ → List A → List A → Trail A
trail_by who past ahead = record { who = who; past = past; ahead = ahead }

pub gone_on-made : {A B : Type 0} (f : A → B) (keep : List A → List A) (keep_made : List B → List B) (who : ℕ) (had : A) (ts : List (Trail A)) → map f (keep ((trail_of who ts).past ++ had ∷ [])) ≡ keep_made (map f ((trail_of who ts).past ++ had ∷ []))
    → map (trail_with f) (gone_on keep who had ts) ≡ gone_on keep_made who (f had) (map (trail_with f) ts)
gone_on-made f keep keep_made who had ts e =
    put-made f (trail_by who (keep ((trail_of who ts).past ++ had ∷ [])) []) ts
    ∙ ap (λ past. with_trail (trail_by who past []) (map (trail_with f) ts))
    (e ∙ ap keep_made (map-append f (trail_of who ts).past (had ∷ []) ∙ ap (λ t. t.past ++ f had ∷ []) (sym (trail-made f who ts))))

-- the trails stand

pub trail-stands : (text : List ℕ) (log : Logged) (who : ℕ) (ts : List (Trail Lag)) → AllByRecursion (TrailLags text log) ts → TrailLags text log (trail_of who ts)
trail-stands text log who [] a = (tt, tt)
trail-stands text log who (t ∷ ts) a =
    by_test (λ b. TrailLags text log (cond b t (trail_of who ts))) (is_trail_of who t)
    (λ _. a.0)
    (λ _. trail-stands text log who ts a.1)

pub put-stands : (text : List ℕ) (log : Logged) (t : Trail Lag) (ts : List (Trail Lag)) → TrailLags text log t → AllByRecursion (TrailLags text log) ts → AllByRecursion (TrailLags text log) (with_trail t ts)
put-stands text log t [] h a = (h, tt)
put-stands text log t (x ∷ xs) h a =
    by_test (λ b. AllByRecursion (TrailLags text log) (cond b (t ∷ xs) (x ∷ with_trail t xs))) (is_trail_of t.who x)
    (λ _. (h, a.1))
    (λ _. (a.0, put-stands text log t xs h a.1))

pub all-behind : {A : Type 0} (P : A → Type 0) (xs : List A) (x : A) → AllByRecursion P xs → P x → AllByRecursion P (xs ++ x ∷ [])
all-behind P [] x a h = (h, tt)
all-behind P (y ∷ ys) x a h = (a.0, all-behind P ys x a.1 h)
