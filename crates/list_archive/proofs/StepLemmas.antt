-- A client's trail as one row of lists: which of them comes before the client's own and which lies ahead, and what an exchange leaves.
use Rattle.std.proofs.Common.{◌≡◌, ℕ, zero, suc, ◌+◌, ◌-◌, ◌<◌, ◌≤◌, List, [], ◌∷◌, ◌++◌, length, take, drop, get_or, set, refl, sym, ap, ap₂, ◌∙◌, arith}
use Rattle.std.specs.Prelude.{Some, None, slice_get}
use Rattle.list_archive.proofs.CodeLemmas.{trail_by}
use Rattle.list_archive.proofs.CountLemmas.{take-length}

-- one list further on

pub none-first : {A : Type 0} (n : ℕ) (xs : List A) → length xs ≤ n → slice_get (drop n xs) 0 ≡ None
none-first zero [] h = refl
none-first zero (x ∷ xs) h = absurd (omega (arith, h))
none-first (suc n) [] h = refl
none-first (suc n) (x ∷ xs) h = none-first n xs (omega (arith, h))

pub first-ahead : {A : Type 0} (n : ℕ) (xs : List A) (x : A) → n < length xs → x ≡ get_or xs n x → slice_get (drop n xs) 0 ≡ Some x
first-ahead n [] x h e = absurd (omega (arith, h))
first-ahead zero (y ∷ ys) x h e = ap Some (sym e)
first-ahead (suc n) (y ∷ ys) x h e = first-ahead n ys x (omega (arith, h)) e

-- the last of the first so many
last-taken : {A : Type 0} (n : ℕ) (xs : List A) (x : A) → n < length xs → x ≡ get_or xs n x → slice_get (take (suc n) xs) n ≡ Some x
last-taken n [] x h e = absurd (omega (arith, h))
last-taken zero (y ∷ ys) x h e = ap Some (sym e)
last-taken (suc n) (y ∷ ys) x h e = last-taken n ys x (omega (arith, h)) e

pub last-behind : {A : Type 0} (past n : ℕ) (xs : List A) (x : A) → past ≡ suc n → past ≤ length xs → x ≡ get_or xs n x → slice_get (take past xs) (length (take past xs) - 1) ≡ Some x
last-behind past n xs x p h e =
    let size : length (take past xs) ≡ past = take-length past xs h in
    let last : length (take past xs) - 1 ≡ n = omega (arith, size, p) in
    ap (slice_get (take past xs)) last ∙ ap (λ k. slice_get (take k xs) n) p ∙ last-taken n xs x (omega (arith, p, h)) e

-- one list of the row is exchanged for another

take-set : {A : Type 0} (n : ℕ) (xs : List A) (x : A) → take n (set xs n x) ≡ take n xs
take-set zero xs x = refl
take-set (suc n) [] x = refl
take-set (suc n) (y ∷ ys) x = ap (λ l. y ∷ l) (take-set n ys x)

drop-set : {A : Type 0} (n : ℕ) (xs : List A) (x : A) → n < length xs → drop n (set xs n x) ≡ x ∷ drop (suc n) xs
drop-set n [] x h = absurd (omega (arith, h))
drop-set zero (y ∷ ys) x h = refl
drop-set (suc n) (y ∷ ys) x h = drop-set n ys x (omega (arith, h))

take-set_more : {A : Type 0} (n : ℕ) (xs : List A) (x : A) → n < length xs → take (suc n) (set xs n x) ≡ take n xs ++ x ∷ []
take-set_more n [] x h = absurd (omega (arith, h))
take-set_more zero (y ∷ ys) x h = refl
take-set_more (suc n) (y ∷ ys) x h = ap (λ l. y ∷ l) (take-set_more n ys x (omega (arith, h)))

drop-set_more : {A : Type 0} (n : ℕ) (xs : List A) (x : A) → drop (suc n) (set xs n x) ≡ drop 1 (drop n xs)
drop-set_more n [] x = none-dropped n
  where
    none-dropped : (k : ℕ) → drop (suc k) (set [] k x) ≡ drop 1 (drop k [])
    none-dropped zero = refl
    none-dropped (suc k) = refl
drop-set_more zero (y ∷ ys) x = refl
drop-set_more (suc n) (y ∷ ys) x = drop-set_more n ys x

take-less : {A : Type 0} (n : ℕ) (xs : List A) → take n (take (suc n) xs) ≡ take n xs
take-less zero xs = refl
take-less (suc n) [] = refl
take-less (suc n) (y ∷ ys) = ap (λ l. y ∷ l) (take-less n ys)

-- back by one: the list before the client's own is exchanged for that
pub exchanged-back : {A : Type 0} (who past n : ℕ) (xs : List A) (x : A) → past ≡ suc n → past ≤ length xs
    → trail_by who (take n (set xs n x)) (drop n (set xs n x)) ≡ trail_by who (take (length (take past xs) - 1) (take past xs)) (x ∷ drop past xs)
exchanged-back who past n xs x p h =
    let size : length (take past xs) ≡ past = take-length past xs h in
    let last : length (take past xs) - 1 ≡ n = omega (arith, size, p) in
    ap₂ (trail_by who)
    (take-set n xs x ∙ sym (take-less n xs) ∙ ap (λ k. take n (take k xs)) (sym p) ∙ ap (λ k. take k (take past xs)) (sym last))
    (drop-set n xs x (omega (arith, p, h)) ∙ ap (λ k. x ∷ drop k xs) (sym p))

-- forward by one: the nearest list ahead is exchanged for the client's own
pub exchanged-forward : {A : Type 0} (who past : ℕ) (xs : List A) (x : A) → past < length xs
    → trail_by who (take (past + 1) (set xs past x)) (drop (past + 1) (set xs past x)) ≡ trail_by who (take past xs ++ x ∷ []) (drop 1 (drop past xs))
exchanged-forward who past xs x h =
    let next : past + 1 ≡ suc past = omega arith in
    ap (λ k. trail_by who (take k (set xs past x)) (drop k (set xs past x))) next
    ∙ ap₂ (trail_by who) (take-set_more past xs x h) (drop-set_more past xs x)
