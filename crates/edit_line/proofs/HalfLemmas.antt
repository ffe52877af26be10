-- The halves of a list whose cut goes on or back by one.
use Rattle.std.proofs.Common.{◌≡◌, ℕ, zero, suc, ◌+◌, ◌-◌, ◌≤◌, List, [], ◌∷◌, ◌++◌, length, take, drop, refl, sym, ap, ap₂, ◌∙◌, arith, length-take-le, take-append-drop}
use Rattle.edit_line.specs.Halves.{Halves}
use Rattle.edit_line.specs.Edits.{gone_left, gone_right}

-- a list cut at a place
abbrev pub cut_at : ℕ → List ℕ → Halves
cut_at n xs = record { before = take n xs; behind = drop n xs }

take-less : (m n : ℕ) (xs : List ℕ) → m ≤ n → take m (take n xs) ≡ take m xs
take-less zero n xs h = refl
take-less (suc m) zero xs h = absurd (omega arith)
take-less (suc m) (suc n) [] h = refl
take-less (suc m) (suc n) (x ∷ xs) h = ap (λ t. x ∷ t) (take-less m n xs (omega (arith, h)))

drop-joined : (m n : ℕ) (xs : List ℕ) → m ≤ n → drop m (take n xs) ++ drop n xs ≡ drop m xs
drop-joined zero n xs h = take-append-drop n xs
drop-joined (suc m) zero xs h = absurd (omega arith)
drop-joined (suc m) (suc n) [] h = refl
drop-joined (suc m) (suc n) (x ∷ xs) h = drop-joined m n xs (omega (arith, h))

-- one back
pub goes-left : (n m : ℕ) (xs : List ℕ) → n ≤ length xs → m ≡ n - 1 → cut_at m xs ≡ gone_left (cut_at n xs)
goes-left n m xs h e =
    let last : length (take n xs) - 1 ≡ m = omega (arith, e, length-take-le n xs h) in
    let front : take m xs ≡ take (length (take n xs) - 1) (take n xs) = sym (take-less m n xs (omega (arith, e))) ∙ ap (λ k. take k (take n xs)) (sym last) in
    let back : drop m xs ≡ drop (length (take n xs) - 1) (take n xs) ++ drop n xs = sym (drop-joined m n xs (omega (arith, e))) ∙ ap (λ k. drop k (take n xs) ++ drop n xs) (sym last) in
    ap₂ (λ a b. let x : Halves = record { before = a; behind = b } in x) front back

take-one : (n : ℕ) (xs : List ℕ) → take (suc n) xs ≡ take n xs ++ take 1 (drop n xs)
take-one zero [] = refl
take-one zero (x ∷ xs) = refl
take-one (suc n) [] = refl
take-one (suc n) (x ∷ xs) = ap (λ t. x ∷ t) (take-one n xs)

pub drop-one : (n : ℕ) (xs : List ℕ) → drop (suc n) xs ≡ drop 1 (drop n xs)
drop-one zero xs = refl
drop-one (suc n) [] = refl
drop-one (suc n) (x ∷ xs) = drop-one n xs

-- one on
pub goes-right : (n : ℕ) (xs : List ℕ) → cut_at (n + 1) xs ≡ gone_right (cut_at n xs)
goes-right n xs =
    let next : n + 1 ≡ suc n = omega arith in
    ap (λ k. cut_at k xs) next ∙ ap₂ (λ a b. let x : Halves = record { before = a; behind = b } in x) (take-one n xs) (drop-one n xs)

-- a list without the item at the cut
front-kept : (n : ℕ) (xs ys : List ℕ) → n ≤ length xs → take n (take n xs ++ ys) ≡ take n xs
front-kept zero xs ys h = refl
front-kept (suc n) [] ys h = absurd (omega arith)
front-kept (suc n) (x ∷ xs) ys h = ap (λ t. x ∷ t) (front-kept n xs ys (omega (arith, h)))

back-kept : (n : ℕ) (xs ys : List ℕ) → n ≤ length xs → drop n (take n xs ++ ys) ≡ ys
back-kept zero xs ys h = refl
back-kept (suc n) [] ys h = absurd (omega arith)
back-kept (suc n) (x ∷ xs) ys h = back-kept n xs ys (omega (arith, h))

pub erased-there : (n : ℕ) (xs ys : List ℕ) → n ≤ length xs → ys ≡ take n xs ++ drop (n + 1) xs → cut_at n ys ≡ record { before = take n xs; behind = drop 1 (drop n xs) }
erased-there n xs ys h e =
    let next : n + 1 ≡ suc n = omega arith in
    ap (cut_at n) e ∙ ap₂ (λ a b. let x : Halves = record { before = a; behind = b } in x) (front-kept n xs (drop (n + 1) xs) h) (back-kept n xs (drop (n + 1) xs) h ∙ ap (λ k. drop k xs) next ∙ drop-one n xs)
