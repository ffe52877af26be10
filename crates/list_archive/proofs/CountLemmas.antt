-- How the code counts lists that are kept, and what it leaves of a row of them.
use Rattle.std.proofs.Common.{◌≡◌, ℕ, zero, suc, ◌+◌, ◌-◌, ◌<◌, ◌≤◌, ◌&&◌, true, false, nat_le, List, [], ◌∷◌, ◌++◌, length, map, take, drop, get_or, cond, refl, sym, ap, ap₂, subst, ◌∙◌, arith}
use Rattle.std.specs.List.{AllByRecursion}
use Rattle.std.proofs.lemmas.Bool.{lt-leb}
use Rattle.std.proofs.lemmas.List.{length-map, length-drop, take_all, drop_more, drop-append-le}
use Rattle.tables.proofs.TableLemmas.{by_test}
use Rattle.change_list.specs.Logs.{Logged}
use Rattle.list_shelf.specs.declared.lag.Lag.{Lag}
use Rattle.list_shelf.specs.Lagging.{up_to_date, IsLagging}
use Rattle.list_archive.specs.declared.limits.TheConstants.{MAX_PAST, MAX_PAST_SELECTIONS}
use Rattle.list_archive.specs.Limits.{total, fits, newest}
use Rattle.list_archive.specs.Trails.{Trail}
use Rattle.list_archive.specs.Archives.{stored_size, newest_lags, AreAllLagging}
use Rattle.list_archive.proofs.LimitLemmas.{fits-both}
use Rattle.list_archive.proofs.CodeLemmas.{trail_by}

-- whether some lists are allowed

pub too-long : (lags : List Lag) → MAX_PAST < length lags → false ≡ fits stored_size lags
too-long lags h = sym (ap (λ b. b && nat_le (total stored_size lags) MAX_PAST_SELECTIONS) (lt-leb (length lags) MAX_PAST h))

pub too-many : (lags : List Lag) → MAX_PAST_SELECTIONS < total stored_size lags → false ≡ fits stored_size lags
too-many lags h =
    by_test (λ b. false ≡ (b && nat_le (total stored_size lags) MAX_PAST_SELECTIONS)) (nat_le (length lags) MAX_PAST)
    (λ _. sym (lt-leb (total stored_size lags) MAX_PAST_SELECTIONS h))
    (λ _. refl)

pub few-enough : (lags : List Lag) → length lags ≤ MAX_PAST → total stored_size lags ≤ MAX_PAST_SELECTIONS → true ≡ fits stored_size lags
few-enough lags h k = sym (fits-both (length lags) (total stored_size lags) h k)

pub total-next : (lags : List Lag) (n : ℕ) (lag : Lag) → n < length lags → lag ≡ get_or lags n lag → total stored_size (drop n lags) ≡ length lag.sels.list + total stored_size (drop (n + 1) lags)
total-next lags n lag h e = ap (total stored_size) (drop_more lags n lag h) ∙ ap (λ (l : Lag). length l.sels.list + total stored_size (drop (n + 1) lags)) (sym e)

-- the newest of some lists, as the oldest are left out one by one

pub newest-skip : {A : Type 0} (size : A → ℕ) (xs : List A) (n : ℕ) → n + 1 < length xs → fits size (drop n xs) ≡ false → newest size (drop (n + 1) xs) ≡ newest size (drop n xs)
newest-skip size [] n h f = absurd (omega (arith, h))
newest-skip size (x ∷ []) n h f = absurd (omega (arith, h))
newest-skip size (x ∷ y ∷ ys) zero h f = sym (ap (λ b. cond b (x ∷ y ∷ ys) (newest size (y ∷ ys))) f)
newest-skip size (x ∷ y ∷ ys) (suc n) h f =
    let e : suc n + 1 ≡ suc (n + 1) = omega arith in
    ap (λ k. newest size (drop k (x ∷ y ∷ ys))) e ∙ newest-skip size (y ∷ ys) n (omega (arith, h)) f

pub newest-few : {A : Type 0} (size : A → ℕ) (xs : List A) (n : ℕ) → length xs ≤ n + 1 → drop n xs ≡ newest size (drop n xs)
newest-few size [] zero h = refl
newest-few size [] (suc n) h = refl
newest-few size (x ∷ []) zero h = refl
newest-few size (x ∷ y ∷ ys) zero h = absurd (omega (arith, h))
newest-few size (x ∷ xs) (suc n) h = newest-few size xs n (omega (arith, h))

-- a part of a row that goes to its end
pub to-end : {A : Type 0} (n : ℕ) (xs : List A) → take (length xs - n) (drop n xs) ≡ drop n xs
to-end n xs = take_all (length xs - n) (drop n xs) (omega (arith, length-drop n xs))

pub take-few : {A : Type 0} (n : ℕ) (xs : List A) → length (take n xs) ≤ n
take-few zero xs = omega arith
take-few (suc n) [] = omega arith
take-few (suc n) (x ∷ xs) = let rest : length (take n xs) ≤ n = take-few n xs in omega (arith, rest)

-- one of the first so many lists

front-holds : {A : Type 0} (P : A → Type 0) (count : ℕ) (xs : List A) (n : ℕ) (x : A) → n < count → n < length xs → AllByRecursion P (take count xs) → P (get_or xs n x)
front-holds P zero xs n x h k a = absurd (omega (arith, h))
front-holds P (suc count) [] n x h k a = absurd (omega (arith, k))
front-holds P (suc count) (y ∷ ys) zero x h k a = a.0
front-holds P (suc count) (y ∷ ys) (suc n) x h k a = front-holds P count ys n x (omega (arith, h)) (omega (arith, k)) a.1

pub front-lags : (log : Logged) (lags : List Lag) (count n : ℕ) (lag : Lag) → AreAllLagging log (take count lags) → count ≤ length lags → n < count → lag ≡ get_or lags n lag → IsLagging log lag
front-lags log lags count n lag a within h e =
    subst (λ (l : Lag). IsLagging log l) (sym e) (front-holds (λ (l : Lag). IsLagging log l) count lags n lag h (omega (arith, h, within)) a)

-- two parts of a row, of which the first is so long

pub take-front : {A : Type 0} (n : ℕ) (xs ys : List A) → length xs ≡ n → take n (xs ++ ys) ≡ xs
take-front zero [] ys e = refl
take-front zero (x ∷ xs) ys e = absurd (omega (arith, e))
take-front (suc n) [] ys e = absurd (omega (arith, e))
take-front (suc n) (x ∷ xs) ys e = ap (λ zs. x ∷ zs) (take-front n xs ys (omega (arith, e)))

pub drop-front : {A : Type 0} (n : ℕ) (xs ys : List A) → length xs ≡ n → drop n (xs ++ ys) ≡ ys
drop-front zero [] ys e = refl
drop-front zero (x ∷ xs) ys e = absurd (omega (arith, e))
drop-front (suc n) [] ys e = absurd (omega (arith, e))
drop-front (suc n) (x ∷ xs) ys e = drop-front n xs ys (omega (arith, e))

pub take-length : {A : Type 0} (n : ℕ) (xs : List A) → n ≤ length xs → length (take n xs) ≡ n
take-length zero xs h = refl
take-length (suc n) [] h = absurd (omega (arith, h))
take-length (suc n) (x ∷ xs) h = ap suc (take-length n xs (omega (arith, h)))

drop-length : {A : Type 0} (n : ℕ) (xs : List A) → n ≤ length xs → length (drop n xs) + n ≡ length xs
drop-length zero xs h = omega arith
drop-length (suc n) [] h = absurd (omega (arith, h))
drop-length (suc n) (x ∷ xs) h = let rest : length (drop n xs) + n ≡ length xs = drop-length n xs (omega (arith, h)) in omega (arith, rest)

-- the oldest of the first part are dropped

abbrev drained_by : {A : Type 0} → ℕ → ℕ → List A → Trail A
drained_by who left xs = trail_by who (take left xs) (drop left xs)

pub drained : {A : Type 0} (who past less : ℕ) (front back : List A) → length front ≡ past → less ≤ past → drained_by who (past - less) (drop less (front ++ back)) ≡ trail_by who (drop less front) back
drained who past less front back e h =
    let parts : drop less (front ++ back) ≡ drop less front ++ back = drop-append-le less front back (omega (arith, e, h)) in
    let left : length (drop less front) ≡ past - less = (let n : length (drop less front) + less ≡ length front = drop-length less front (omega (arith, e, h)) in omega (arith, n, e, h)) in
    ap (drained_by who (past - less)) parts
    ∙ ap₂ (trail_by who) (take-front (past - less) (drop less front) back left) (drop-front (past - less) (drop less front) back left)

-- where all are allowed, nothing is brought up to date and nothing goes
pub newest-there : (log : Logged) (who past : ℕ) (lags : List Lag) → fits stored_size (take past lags) ≡ true → trail_by who (take past lags) (drop past lags) ≡ trail_by who (newest_lags log (take past lags)) (drop past lags)
newest-there log who past lags h = sym (ap (λ b. trail_by who (cond b (take past lags) (newest stored_size (map (up_to_date log) (take past lags)))) (drop past lags)) h)

-- else they are brought up to date, and the newest of them stay
pub newest-cut : (log : Logged) (who past less : ℕ) (lags brought left : List Lag) → past ≤ length lags → fits stored_size (take past lags) ≡ false → brought ≡ map (up_to_date log) (take past lags) ++ drop past lags
    → less ≤ past → drop less (take past brought) ≡ newest stored_size (take past brought) → left ≡ drop less brought
    → drained_by who (past - less) left ≡ trail_by who (newest_lags log (take past lags)) (drop past lags)
newest-cut log who past less lags brought left within h e few n d =
    let up : List Lag = map (up_to_date log) (take past lags) in
    let size : length up ≡ past = length-map (take past lags) (up_to_date log) ∙ take-length past lags within in
    let front : take past brought ≡ up = ap (take past) e ∙ take-front past up (drop past lags) size in
    ap (drained_by who (past - less)) (d ∙ ap (drop less) e)
    ∙ drained who past less up (drop past lags) size few
    ∙ ap (λ xs. trail_by who xs (drop past lags))
    (ap (drop less) (sym front) ∙ n ∙ ap (newest stored_size) front ∙ sym (ap (λ b. cond b (take past lags) (newest stored_size up)) h))

-- a list is put behind the first part, and what came behind is forgotten
pub put-behind : {A : Type 0} (who past : ℕ) (xs now : List A) (x : A) → past ≤ length xs → now ≡ take (past + 1) (take past xs ++ x ∷ drop past xs) → trail_by who (take (past + 1) now) (drop (past + 1) now) ≡ trail_by who (take past xs ++ x ∷ []) []
put-behind {A = A} who past xs now x within e =
    let size : length (take past xs) ≡ past = take-length past xs within in
    let all : now ≡ take past xs ++ x ∷ [] = e ∙ one-more past (take past xs) (drop past xs) size in
    ap (λ ys. trail_by who (take (past + 1) ys) (drop (past + 1) ys)) all
    ∙ ap₂ (trail_by who) (whole past (take past xs) size) (none past (take past xs) size)
  where
    one-more : (n : ℕ) (ys zs : List A) → length ys ≡ n → take (n + 1) (ys ++ x ∷ zs) ≡ ys ++ x ∷ []
    one-more zero [] zs e = refl
    one-more zero (y ∷ ys) zs e = absurd (omega (arith, e))
    one-more (suc n) [] zs e = absurd (omega (arith, e))
    one-more (suc n) (y ∷ ys) zs e =
        let next : suc n + 1 ≡ suc (n + 1) = omega arith in
        ap (λ k. take k (y ∷ (ys ++ x ∷ zs))) next ∙ ap (λ l. y ∷ l) (one-more n ys zs (omega (arith, e)))

    whole : (n : ℕ) (ys : List A) → length ys ≡ n → take (n + 1) (ys ++ x ∷ []) ≡ ys ++ x ∷ []
    whole n ys e = one-more n ys [] e

    none : (n : ℕ) (ys : List A) → length ys ≡ n → drop (n + 1) (ys ++ x ∷ []) ≡ []
    none zero [] e = refl
    none zero (y ∷ ys) e = absurd (omega (arith, e))
    none (suc n) [] e = absurd (omega (arith, e))
    none (suc n) (y ∷ ys) e =
        let next : suc n + 1 ≡ suc (n + 1) = omega arith in
        ap (λ k. drop k (y ∷ (ys ++ x ∷ []))) next ∙ none n ys (omega (arith, e))
