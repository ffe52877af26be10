-- What the code makes of a client's trail among all, as it goes on, back and forward.
use Rattle.std.proofs.Common.{◌≡◌, ℕ, zero, suc, ◌-◌, ◌<◌, ◌≤◌, ◌&&◌, ◌==◌, not, Bool, true, false, List, [], ◌∷◌, ◌++◌, length, map, take, drop, get_or, set, cond, refl, sym, ap, subst, ◌∙◌, arith}
use Rattle.std.specs.Prelude.{Some, None, slice_get}
use Rattle.std.specs.declared.option.Option.{Option}
use Rattle.std.specs.List.{AllByRecursion}
use Rattle.tables.specs.Tables.{place_where}
use Rattle.tables.proofs.TableLemmas.{by_test}
use Rattle.change_list.specs.Logs.{Logged, stamp_of}
use Rattle.list_shelf.specs.declared.holder.Holder.TheVariants.{Of}
use Rattle.list_shelf.specs.declared.lag.Lag.{Lag}
use Rattle.list_shelf.specs.Lagging.{seen_by, up_to_date, Lags, IsLagging}
use Rattle.list_shelf.specs.Shelves.{Shelved, has_row, with_lag_of}
use Rattle.list_shelf.proofs.CodeLemmas.{lag-stays}
use Rattle.list_shelf.proofs.LagLemmas.{brought-lags}
use Rattle.list_archive.specs.declared.saved.Saved.{Saved}
use Rattle.list_archive.specs.declared.saved.Saved.TheVariants.{Nothing, Own}
use Rattle.list_archive.specs.Limits.{fits, newest}
use Rattle.list_archive.specs.Trails.{Trail, is_trail_of, no_trail, trail_of, last_before, next_ahead, gone_on}
use Rattle.list_archive.specs.Archives.{Archived, own_lag, stored_size, newest_lags, alike_listed, unsaved, kept_from, saved_kept_in, SavedStands, AreAllLagging, WentBack, WentForward, WasUndone, WasRedone, CanStandWith, TrailLags}
use Rattle.list_archive.proofs.EachLemmas.{each}
use Rattle.list_archive.proofs.CodeLemmas.{trail_by}
use Rattle.list_archive.proofs.PlaceLemmas.{trail-read, trail-none, trail-own, trail-set, trail-added}
use Rattle.list_archive.proofs.StayLemmas.{own-lags, trail-stands, all-behind}

abbrev with_trails : Archived → List (Trail Lag) → Archived
with_trails a trails = record { saved = a.saved; trails = trails; marks = a.marks }

-- one that is put back as it was
set-same : {A : Type 0} (n : ℕ) (xs : List A) (x : A) → n < length xs → x ≡ get_or xs n x → set xs n x ≡ xs
set-same n [] x h e = absurd (omega (arith, h))
set-same zero (y ∷ ys) x h e = ap (λ z. z ∷ ys) e
set-same (suc n) (y ∷ ys) x h e = ap (λ l. y ∷ l) (set-same n ys x (omega (arith, h)) e)

-- a client goes on from a list

pub went-on : {A : Type 0} (keep : List A → List A) (who : ℕ) (had : A) (trails : List (Trail A)) (n : ℕ) (t now : Trail A) → n ≡ place_where (is_trail_of who) trails → n < length trails → t ≡ get_or trails n t
    → now ≡ trail_by t.who (keep (t.past ++ had ∷ [])) [] → set trails n now ≡ gone_on keep who had trails
went-on {A = A} keep who had trails n t now e h r is =
    let own : t.who ≡ who = trail-own who trails n t e h r in
    let read : t ≡ trail_of who trails = trail-read who trails n t e h r in
    ap (set trails n) (is ∙ ap (λ k. trail_by k (keep (t.past ++ had ∷ [])) []) own ∙ ap (λ (x : Trail A). trail_by who (keep (x.past ++ had ∷ [])) []) read)
    ∙ trail-set who trails n (trail_by who (keep ((trail_of who trails).past ++ had ∷ [])) []) e h refl

pub went-first : {A : Type 0} (keep : List A → List A) (who : ℕ) (had : A) (trails : List (Trail A)) (n : ℕ) (now : Trail A) → n ≡ place_where (is_trail_of who) trails → length trails ≤ n
    → keep (had ∷ []) ≡ had ∷ [] → now ≡ trail_by who (had ∷ []) [] → trails ++ now ∷ [] ≡ gone_on keep who had trails
went-first {A = A} keep who had trails n now e h one is =
    let none : trail_of who trails ≡ no_trail who = trail-none who trails n e h in
    let same : now ≡ trail_by who (keep ((trail_of who trails).past ++ had ∷ [])) [] =
    is ∙ ap (λ past. trail_by who past []) (sym one) ∙ ap (λ (x : Trail A). trail_by who (keep (x.past ++ had ∷ [])) []) (sym none) in
    ap (λ x. trails ++ x ∷ []) same ∙ trail-added who trails n (trail_by who (keep ((trail_of who trails).past ++ had ∷ [])) []) e h refl

-- a list that is up to date and alone stays
pub alone-stays : (log : Logged) (lag : Lag) → IsLagging log lag → lag.stamp ≡ stamp_of log → newest_lags log (lag ∷ []) ≡ lag ∷ []
alone-stays log lag l e =
    by_test (λ b. cond b (lag ∷ []) (newest stored_size (map (up_to_date log) (lag ∷ []))) ≡ lag ∷ []) (fits stored_size (lag ∷ []))
    (λ _. refl)
    (λ _. ap (λ x. x ∷ []) (sym (lag-stays log lag lag.stamp l refl e)))

-- what holds of the lists of its trail

pub trail-lagging : (shelf : Shelved) (a : Archived) (who n : ℕ) (t : Trail Lag) → CanStandWith shelf a → n ≡ place_where (is_trail_of who) a.trails → n < length a.trails → t ≡ get_or a.trails n t
    → AreAllLagging shelf.log t.past × AreAllLagging shelf.log t.ahead
trail-lagging shelf a who n t can e h r =
    let lags : TrailLags can.text shelf.log t = subst (TrailLags can.text shelf.log) (sym (trail-read who a.trails n t e h r)) (trail-stands can.text shelf.log who a.trails can.stands.trails) in
    let one : (lag : Lag) → Lags can.text shelf.log lag → IsLagging shelf.log lag = λ lag l. record { text = can.text; lags = l } in
    (each (Lags can.text shelf.log) (IsLagging shelf.log) t.past one lags.0, each (Lags can.text shelf.log) (IsLagging shelf.log) t.ahead one lags.1)

pub trail-listed : (shelf : Shelved) (a : Archived) (who n : ℕ) (t : Trail Lag) → has_row (Of who) shelf ≡ true → n ≡ place_where (is_trail_of who) a.trails → n < length a.trails → t ≡ get_or a.trails n t → has_row (Of t.who) shelf ≡ true
trail-listed shelf a who n t some e h r = subst (λ k. has_row (Of k) shelf ≡ true) (sym (trail-own who a.trails n t e h r)) some

pub trail-behind : (shelf : Shelved) (a : Archived) (who n : ℕ) (t : Trail Lag) → has_row (Of who) shelf ≡ true → CanStandWith shelf a → n ≡ place_where (is_trail_of who) a.trails → n < length a.trails → t ≡ get_or a.trails n t
    → AreAllLagging shelf.log (t.past ++ own_lag t.who shelf ∷ [])
trail-behind shelf a who n t some can e h r =
    all-behind (IsLagging shelf.log) t.past (own_lag t.who shelf) (trail-lagging shelf a who n t can e h r).0
    (record { text = can.text; lags = own-lags can.text t.who shelf (trail-listed shelf a who n t some e h r) can.shelf_stands })

pub going-on : (shelf : Shelved) (a : Archived) (who : ℕ) (lag : Lag) → CanStandWith shelf a → IsLagging shelf.log lag → AreAllLagging shelf.log ((trail_of who a.trails).past ++ lag ∷ [])
going-on shelf a who lag can l =
    all-behind (IsLagging shelf.log) (trail_of who a.trails).past lag
    (each (Lags can.text shelf.log) (IsLagging shelf.log) (trail_of who a.trails).past (λ x m. record { text = can.text; lags = m }) (trail-stands can.text shelf.log who a.trails can.stands.trails).0)
    l

-- the last of some lists
pub last-holds : {A : Type 0} (P : A → Type 0) (xs : List A) (x : A) → AllByRecursion P (xs ++ x ∷ []) → P x
last-holds P [] x a = a.0
last-holds P (y ∷ ys) x a = last-holds P ys x a.1

-- the saved list, brought up to date, is one that it can go on from
pub going-on_up : (shelf : Shelved) (a : Archived) (who number : ℕ) (lag up : Lag) (log : Logged) → CanStandWith shelf a → a.saved ≡ Own number lag → up ≡ up_to_date log lag → log ≡ shelf.log → AreAllLagging log ((trail_of who a.trails).past ++ up ∷ [])
going-on_up shelf a who number lag up log can e u l =
    let was : Lags can.text shelf.log lag = subst (λ s. SavedStands can.text shelf s) e can.stands.saved in
    let now : Lags can.text shelf.log up = subst (Lags can.text shelf.log) (sym (u ∙ ap (λ g. up_to_date g lag) l)) (brought-lags can.text shelf.log lag was) in
    subst (λ g. AreAllLagging g ((trail_of who a.trails).past ++ up ∷ [])) (sym l) (going-on shelf a who up can (record { text = can.text; lags = now }))

-- it didn't go on from it
pub kept-as_is : (shelf : Shelved) (a : Archived) (who number : ℕ) (lag up : Lag) (saved : Saved) (log : Logged) → a.saved ≡ Own number lag → saved ≡ Nothing → up ≡ up_to_date log lag → log ≡ shelf.log
    → false ≡ (number == who && not (alike_listed up.sels (own_lag who shelf).sels)) → record { saved = saved; trails = a.trails; marks = a.marks } ≡ saved_kept_in who shelf a
kept-as_is shelf a who number lag up saved log e n u l t =
    let test : (number == who && not (alike_listed (seen_by shelf.log lag) (own_lag who shelf).sels)) ≡ false =
    ap (λ (x : Lag). number == who && not (alike_listed x.sels (own_lag who shelf).sels)) (sym (u ∙ ap (λ g. up_to_date g lag) l)) ∙ sym t in
    let went : Archived = record { saved = Nothing; trails = gone_on (newest_lags shelf.log) who (up_to_date shelf.log lag) a.trails; marks = a.marks } in
    ap (λ s. let x : Archived = record { saved = s; trails = a.trails; marks = a.marks } in x) n
    ∙ sym (ap (λ b. cond b went (unsaved a)) test)
    ∙ ap (λ s. kept_from who shelf s (unsaved a)) (sym e)

-- it takes its list back

pub none-undone : (shelf : Shelved) (a : Archived) (who n : ℕ) → n ≡ place_where (is_trail_of who) a.trails → length a.trails ≤ n → WasUndone who (last_before who a.trails) false shelf a shelf a
none-undone shelf a who n e h =
    subst (λ (t : Trail Lag). WasUndone who (slice_get t.past (length t.past - 1)) false shelf a shelf a) (sym (trail-none who a.trails n e h)) (refl, (refl, refl))

pub was-undone : (shelf after : Shelved) (a : Archived) (who n : ℕ) (result : Bool) (t now : Trail Lag) → n ≡ place_where (is_trail_of who) a.trails → n < length a.trails → t ≡ get_or a.trails n t
    → WentBack (slice_get t.past (length t.past - 1)) result t shelf now after → WasUndone who (last_before who a.trails) result shelf a after (with_trails a (set a.trails n now))
was-undone shelf after a who n result t now e h r went =
    subst (λ (x : Trail Lag). WasUndone who (slice_get x.past (length x.past - 1)) result shelf a after (with_trails a (set a.trails n now))) read (by (slice_get t.past (length t.past - 1)) went)
  where
    own : t.who ≡ who
    own = trail-own who a.trails n t e h r

    read : t ≡ trail_of who a.trails
    read = trail-read who a.trails n t e h r

    back : ℕ → Trail Lag → Trail Lag
    back k x = trail_by k (take (length x.past - 1) x.past) (own_lag k shelf ∷ x.ahead)

    by : (o : Option Lag) → WentBack o result t shelf now after → WasUndone who o result shelf a after (with_trails a (set a.trails n now))
    by None w = (w.0, (ap (with_trails a) (ap (set a.trails n) w.1.0 ∙ set-same n a.trails t h r), w.1.1))
    by (Some lag) w = (
      w.0,
      (
        ap (with_trails a) (ap (set a.trails n) (w.1.0 ∙ ap (λ k. back k t) own ∙ ap (back who) read) ∙ trail-set who a.trails n (back who (trail_of who a.trails)) e h refl),
        w.1.1 ∙ ap (λ k. with_lag_of (Of k) (up_to_date shelf.log lag) shelf) own,
      ),
    )

-- or redoes it

pub none-redone : (shelf : Shelved) (a : Archived) (who n : ℕ) → n ≡ place_where (is_trail_of who) a.trails → length a.trails ≤ n → WasRedone who (next_ahead who a.trails) false shelf a shelf a
none-redone shelf a who n e h = subst (λ (t : Trail Lag). WasRedone who (slice_get t.ahead 0) false shelf a shelf a) (sym (trail-none who a.trails n e h)) (refl, (refl, refl))

pub was-redone : (shelf after : Shelved) (a : Archived) (who n : ℕ) (result : Bool) (t now : Trail Lag) → n ≡ place_where (is_trail_of who) a.trails → n < length a.trails → t ≡ get_or a.trails n t
    → WentForward (newest_lags shelf.log) (slice_get t.ahead 0) result t shelf now after → WasRedone who (next_ahead who a.trails) result shelf a after (with_trails a (set a.trails n now))
was-redone shelf after a who n result t now e h r went =
    subst (λ (x : Trail Lag). WasRedone who (slice_get x.ahead 0) result shelf a after (with_trails a (set a.trails n now))) read (by (slice_get t.ahead 0) went)
  where
    own : t.who ≡ who
    own = trail-own who a.trails n t e h r

    read : t ≡ trail_of who a.trails
    read = trail-read who a.trails n t e h r

    forward : ℕ → Trail Lag → Trail Lag
    forward k x = trail_by k (newest_lags shelf.log (x.past ++ own_lag k shelf ∷ [])) (drop 1 x.ahead)

    by : (o : Option Lag) → WentForward (newest_lags shelf.log) o result t shelf now after → WasRedone who o result shelf a after (with_trails a (set a.trails n now))
    by None w = (w.0, (ap (with_trails a) (ap (set a.trails n) w.1.0 ∙ set-same n a.trails t h r), w.1.1))
    by (Some lag) w = (
      w.0,
      (
        ap (with_trails a) (ap (set a.trails n) (w.1.0 ∙ ap (λ k. forward k t) own ∙ ap (forward who) read) ∙ trail-set who a.trails n (forward who (trail_of who a.trails)) e h refl),
        w.1.1 ∙ ap (λ k. with_lag_of (Of k) (up_to_date shelf.log lag) shelf) own,
      ),
    )
