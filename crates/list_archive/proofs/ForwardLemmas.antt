-- What the code makes of a trail as its client goes back and forward.
use Rattle.std.proofs.Common.{◌≡◌, ℕ, zero, suc, ◌+◌, ◌-◌, ◌<◌, ◌≤◌, Bool, true, false, List, [], ◌∷◌, ◌++◌, length, take, drop, get_or, set, refl, sym, ap, subst, ◌∙◌, arith}
use Rattle.std.specs.Prelude.{Some, None, slice_get}
use Rattle.std.specs.declared.option.Option.{Option}
use Rattle.std.specs.List.{AllByRecursion}
use Rattle.change_list.specs.Logs.{Logged}
use Rattle.list_shelf.specs.declared.holder.Holder.TheVariants.{Of}
use Rattle.list_shelf.specs.declared.lag.Lag.{Lag}
use Rattle.list_shelf.specs.Lagging.{up_to_date, IsLagging}
use Rattle.list_shelf.specs.Shelves.{Shelved, with_lag_of}
use Rattle.list_archive.specs.Trails.{Trail}
use Rattle.list_archive.specs.Archives.{own_lag, newest_lags, AreAllLagging, WentBack, WentForward}
use Rattle.list_archive.proofs.CodeLemmas.{trail_by}
use Rattle.list_archive.proofs.CountLemmas.{front-lags}
use Rattle.list_archive.proofs.StepLemmas.{none-first, first-ahead, last-behind, exchanged-back, exchanged-forward}

-- all lists as they are
abbrev pub all_lags : List Lag → List Lag
all_lags lags = lags

-- back, on a trail that is one row of lists

pub none-back : (who : ℕ) (lags : List Lag) (t : Trail Lag) (shelf : Shelved) → trail_by who (take 0 lags) (drop 0 lags) ≡ t → WentBack (slice_get t.past (length t.past - 1)) false t shelf t shelf
none-back who lags t shelf v = subst (λ (x : Trail Lag). WentBack (slice_get x.past (length x.past - 1)) false x shelf x shelf) v (refl, (refl, refl))

pub some-back : (who past n : ℕ) (lags : List Lag) (lag now : Lag) (t : Trail Lag) (shelf after : Shelved) → trail_by who (take past lags) (drop past lags) ≡ t → past ≡ suc n → past ≤ length lags → lag ≡ get_or lags n lag
    → now ≡ own_lag who shelf → after ≡ with_lag_of (Of who) (up_to_date shelf.log lag) shelf
    → WentBack (slice_get t.past (length t.past - 1)) true t shelf (trail_by who (take n (set lags n now)) (drop n (set lags n now))) after
some-back who past n lags lag now t shelf after v p h r own is =
    subst (λ (x : Trail Lag). WentBack (slice_get x.past (length x.past - 1)) true x shelf (trail_by who (take n (set lags n now)) (drop n (set lags n now))) after) v
    (subst (λ o. WentBack o true (trail_by who (take past lags) (drop past lags)) shelf (trail_by who (take n (set lags n now)) (drop n (set lags n now))) after) (sym (last-behind past n lags lag p h r))
    (refl, (exchanged-back who past n lags now p h ∙ ap (λ x. trail_by who (take (length (take past lags) - 1) (take past lags)) (x ∷ drop past lags)) own, is)))

pub back-lagging : (who past n : ℕ) (lags : List Lag) (lag : Lag) (t : Trail Lag) (log : Logged) → trail_by who (take past lags) (drop past lags) ≡ t → past ≡ suc n → past ≤ length lags → lag ≡ get_or lags n lag → AreAllLagging log t.past → IsLagging log lag
back-lagging who past n lags lag t log v p h r a = front-lags log lags past n lag (subst (λ (x : Trail Lag). AreAllLagging log x.past) (sym v) a) h (omega (arith, p)) r

-- forward

pub none-forward : (keep : List Lag → List Lag) (who past : ℕ) (lags : List Lag) (t : Trail Lag) (shelf : Shelved) → trail_by who (take past lags) (drop past lags) ≡ t → length lags ≤ past → WentForward keep (slice_get t.ahead 0) false t shelf t shelf
none-forward keep who past lags t shelf v h =
    subst (λ (x : Trail Lag). WentForward keep (slice_get x.ahead 0) false x shelf x shelf) v
    (subst (λ o. WentForward keep o false (trail_by who (take past lags) (drop past lags)) shelf (trail_by who (take past lags) (drop past lags)) shelf) (sym (none-first past lags h)) (refl, (refl, refl)))

pub some-forward : (who past : ℕ) (lags : List Lag) (lag now : Lag) (t : Trail Lag) (shelf after : Shelved) → trail_by who (take past lags) (drop past lags) ≡ t → past < length lags → lag ≡ get_or lags past lag
    → now ≡ own_lag who shelf → after ≡ with_lag_of (Of who) (up_to_date shelf.log lag) shelf
    → WentForward all_lags (slice_get t.ahead 0) true t shelf (trail_by who (take (past + 1) (set lags past now)) (drop (past + 1) (set lags past now))) after
some-forward who past lags lag now t shelf after v h r own is =
    subst (λ (x : Trail Lag). WentForward all_lags (slice_get x.ahead 0) true x shelf (trail_by who (take (past + 1) (set lags past now)) (drop (past + 1) (set lags past now))) after) v
    (subst (λ o. WentForward all_lags o true (trail_by who (take past lags) (drop past lags)) shelf (trail_by who (take (past + 1) (set lags past now)) (drop (past + 1) (set lags past now))) after) (sym (first-ahead past lags lag h r))
    (refl, (exchanged-forward who past lags now h ∙ ap (λ x. trail_by who (take past lags ++ x ∷ []) (drop 1 (drop past lags))) own, is)))

-- the list that lies nearest ahead
ahead-holds : {A : Type 0} (P : A → Type 0) (n : ℕ) (xs : List A) (x : A) → n < length xs → x ≡ get_or xs n x → AllByRecursion P (drop n xs) → P x
ahead-holds P n [] x h e a = absurd (omega (arith, h))
ahead-holds P zero (y ∷ ys) x h e a = subst P (sym e) a.0
ahead-holds P (suc n) (y ∷ ys) x h e a = ahead-holds P n ys x (omega (arith, h)) e a

pub ahead-lagging : (who past : ℕ) (lags : List Lag) (lag : Lag) (t : Trail Lag) (log : Logged) → trail_by who (take past lags) (drop past lags) ≡ t → past < length lags → lag ≡ get_or lags past lag → AreAllLagging log t.ahead → IsLagging log lag
ahead-lagging who past lags lag t log v h r a = ahead-holds (λ (l : Lag). IsLagging log l) past lags lag h r (subst (λ (x : Trail Lag). AreAllLagging log x.ahead) (sym v) a)

-- where nothing lies ahead, or what comes before isn't cut yet

pub not-forward : (keep : List Lag → List Lag) (o : Option Lag) (result : Bool) (t : Trail Lag) (shelf : Shelved) (now : Trail Lag) (after : Shelved) → WentForward all_lags o result t shelf now after → result ≡ false → WentForward keep o false t shelf now after
not-forward keep None result t shelf now after w e = (refl, w.1)
not-forward keep (Some lag) result t shelf now after w e = absurd (let no : true ≡ false = sym w.0 ∙ e in cc)

pub forward-lagging : (o : Option Lag) (result : Bool) (t : Trail Lag) (shelf : Shelved) (now : Trail Lag) (after : Shelved) → WentForward all_lags o result t shelf now after → result ≡ true → AreAllLagging shelf.log (t.past ++ own_lag t.who shelf ∷ []) → AreAllLagging after.log now.past
forward-lagging None result t shelf now after w e a = absurd (let no : true ≡ false = sym e ∙ w.0 in cc)
forward-lagging (Some lag) result t shelf now after w e a =
    subst (λ (x : Trail Lag). AreAllLagging after.log x.past) (sym w.1.0) (subst (λ (s : Shelved). AreAllLagging s.log (t.past ++ own_lag t.who shelf ∷ [])) (sym w.1.1) a)

pub forward-cut : (o : Option Lag) (result : Bool) (t : Trail Lag) (shelf : Shelved) (mid : Trail Lag) (after : Shelved) (now : Trail Lag) (log : Logged) → WentForward all_lags o result t shelf mid after → result ≡ true → log ≡ after.log
    → now ≡ record { who = mid.who; past = newest_lags log mid.past; ahead = mid.ahead } → WentForward (newest_lags shelf.log) o true t shelf now after
forward-cut None result t shelf mid after now log w e l is = absurd (let no : true ≡ false = sym e ∙ w.0 in cc)
forward-cut (Some lag) result t shelf mid after now log w e l is = (
  refl,
  (
    is
        ∙ ap (λ (x : Logged). trail_by mid.who (newest_lags x mid.past) mid.ahead) (l ∙ ap (λ (s : Shelved). s.log) w.1.1)
        ∙ ap (λ (x : Trail Lag). trail_by x.who (newest_lags shelf.log x.past) x.ahead) w.1.0,
    w.1.1,
  ),
)
