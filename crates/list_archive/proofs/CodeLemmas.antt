-- What the code makes of lists that are kept.
use Rattle.std.proofs.Common.{◌≡◌, ℕ, zero, suc, ◌<◌, min, List, [], ◌∷◌, ◌++◌, length, map, take, drop, get_or, refl, sym, ap, ap₂, subst, ◌∙◌, take-append-drop}
use Rattle.std.specs.List.{AllByRecursion}
use Rattle.text_model.specs.declared.coords.Shift.{Shift}
use Rattle.selection_set.proofs.HeldLemmas.{all-at}
use Rattle.selection_map.specs.Catching.{IsCatchable}
use Rattle.selection_map.proofs.FrontLemmas.{mapped_front, front-at}
use Rattle.selection_map.proofs.StepLemmas.{changes-catchable}
use Rattle.change_list.specs.Logs.{Logged}
use Rattle.list_shelf.specs.declared.lag.Lag.{Lag}
use Rattle.list_shelf.specs.Lagging.{seen_by, IsLagging}
use Rattle.list_shelf.proofs.LagLemmas.{seen-held, lags-stored}
use Rattle.list_archive.specs.Trails.{Trail, Mark, trail_with}
use Rattle.list_archive.specs.Archives.{least_lag, IsCarriable, AreCarriable, IsTrailCarriable, AreTrailsCarriable, AreMarksCarriable}

-- a list that can go through a log and further shifts

pub carriable-lags : (log : Logged) (ss : List Shift) (lag : Lag) → IsCarriable log ss lag → IsLagging log lag
carriable-lags log ss lag can = record { text = can.text; lags = can.lags }

pub carriable-up : (log : Logged) (ss : List Shift) (lag : Lag) → IsCarriable log ss lag → IsCatchable ss (seen_by log lag)
carriable-up log ss lag can = changes-catchable can.text can.changes ss (seen_by log lag) (lags-stored can.text log lag can.lags) can.shifts_are (seen-held can.text log lag can.lags)

-- one that comes next in a loop is as it was
pub front-one : {A : Type 0} (n : ℕ) (f : A → A) (xs now : List A) (x : A) → now ≡ mapped_front n f xs → x ≡ get_or now n x → x ≡ get_or xs n x
front-one n f xs now x e r = r ∙ ap (λ l. get_or l n x) e ∙ front-at n f xs x

-- those at their places

pub lag-carriable : (log : Logged) (ss : List Shift) (lags : List Lag) (n : ℕ) (lag : Lag) → AreCarriable log ss lags → n < length lags → lag ≡ get_or lags n lag → IsCarriable log ss lag
lag-carriable log ss lags n lag a h e = subst (λ (l : Lag). IsCarriable log ss l) (sym e) (all-at (λ (l : Lag). IsCarriable log ss l) lags n lag h a)

pub trail-carriable : (log : Logged) (ss : List Shift) (trails : List (Trail Lag)) (n : ℕ) (t : Trail Lag) → AreTrailsCarriable log ss trails → n < length trails → t ≡ get_or trails n t → IsTrailCarriable log ss t
trail-carriable log ss trails n t a h e = subst (λ (x : Trail Lag). IsTrailCarriable log ss x) (sym e) (all-at (λ (x : Trail Lag). IsTrailCarriable log ss x) trails n t h a)

pub mark-carriable : (log : Logged) (ss : List Shift) (marks : List (Mark Lag)) (n : ℕ) (m : Mark Lag) → AreMarksCarriable log ss marks → n < length marks → m ≡ get_or marks n m → IsCarriable log ss m.list
mark-carriable log ss marks n m a h e = subst (λ (x : Mark Lag). IsCarriable log ss x.list) (sym e) (all-at (λ (x : Mark Lag). IsCarriable log ss x.list) marks n m h a)

-- parts of a row

pub all-parts : {A : Type 0} (P : A → Type 0) (n : ℕ) (xs : List A) → AllByRecursion P (take n xs) → AllByRecursion P (drop n xs) → AllByRecursion P xs
all-parts P zero xs a b = b
all-parts P (suc n) [] a b = tt
all-parts P (suc n) (x ∷ xs) a b = (a.0, all-parts P n xs a.1 b)

abbrev pub trail_by : {A : Type 0} → ℕ → List A → List A → Trail A
trail_by who past ahead = record { who = who; past = past; ahead = ahead }

take-made : {A B : Type 0} (f : A → B) (xs : List A) (n : ℕ) → take n (map f xs) ≡ map f (take n xs)
take-made f xs zero = refl
take-made f [] (suc n) = refl
take-made f (x ∷ xs) (suc n) = ap (λ ys. f x ∷ ys) (take-made f xs n)

drop-made : {A B : Type 0} (f : A → B) (xs : List A) (n : ℕ) → drop n (map f xs) ≡ map f (drop n xs)
drop-made f xs zero = refl
drop-made f [] (suc n) = refl
drop-made f (x ∷ xs) (suc n) = drop-made f xs n

pub parts-made : {A B : Type 0} (who n : ℕ) (f : A → B) (xs : List A) (ys : List B) → ys ≡ map f xs → trail_by who (take n ys) (drop n ys) ≡ trail_with f (trail_by who (take n xs) (drop n xs))
parts-made who n f xs ys e = ap (λ zs. trail_by who (take n zs) (drop n zs)) e ∙ ap₂ (trail_by who) (take-made f xs n) (drop-made f xs n)

-- the least stamp of two parts

least-parts : (stamp : ℕ) (xs ys : List Lag) → least_lag stamp (xs ++ ys) ≡ least_lag (least_lag stamp xs) ys
least-parts stamp [] ys = refl
least-parts stamp (x ∷ xs) ys = least-parts (min stamp x.stamp) xs ys

pub least-both : (stamp n : ℕ) (xs : List Lag) → least_lag stamp xs ≡ least_lag (least_lag stamp (take n xs)) (drop n xs)
least-both stamp n xs = ap (least_lag stamp) (sym (take-append-drop n xs)) ∙ least-parts stamp (take n xs) (drop n xs)

-- the first so many done
pub front-made : {A : Type 0} (n : ℕ) (f : A → A) (xs : List A) → mapped_front n f xs ≡ map f (take n xs) ++ drop n xs
front-made zero f xs = refl
front-made (suc n) f [] = refl
front-made (suc n) f (x ∷ xs) = ap (λ ys. f x ∷ ys) (front-made n f xs)
