-- Finding a row, and putting one, by its place.
use Rattle.std.proofs.lemmas.List.{drop_more, drop_all, get_or_read, get_or_past}
use Rattle.std.specs.Prelude.{find, Some, None}
use Rattle.std.proofs.Common.{drop, ◌+◌, ◌≡◌, ℕ, suc, ◌<◌, ◌≤◌, List, [], ◌∷◌, ◌++◌, length, get_or, set, Bool, true, false, cond, refl, ap, sym, ◌∙◌, arith}
use Rattle.tables.specs.Tables.{first_where, put_where, place_where}

-- cases of a test
pub by_test : (P : Bool → Type 0) (b : Bool) → (b ≡ true → P true) → (b ≡ false → P false) → P b
by_test P true t f = t refl
by_test P false t f = f refl

-- a row is found at its place
pub first-place : {A : Type 0} (p : A → Bool) (other : A) (xs : List A) → first_where p other xs ≡ get_or xs (place_where p xs) other
first-place p other [] = refl
first-place p other (x ∷ xs) =
    by_test (λ b. cond b x (first_where p other xs) ≡ get_or (x ∷ xs) (cond b 0 (suc (place_where p xs))) other) (p x) (λ _. refl) (λ _. first-place p other xs)

-- a place inside is one of a row that passes
pub place-passes : {A : Type 0} (p : A → Bool) (other : A) (xs : List A) → place_where p xs < length xs → p (get_or xs (place_where p xs) other) ≡ true
place-passes p other [] h = absurd (omega arith)
place-passes p other (x ∷ xs) h =
    by_test (λ b. b ≡ p x → cond b 0 (suc (place_where p xs)) < suc (length xs) → p (get_or (x ∷ xs) (cond b 0 (suc (place_where p xs))) other) ≡ true) (p x)
    (λ _ e _. sym e)
    (λ _ _ h. place-passes p other xs (omega arith))
    refl h

-- a row is put at its place
pub put-place : {A : Type 0} (p : A → Bool) (row : A) (xs : List A) → place_where p xs < length xs → put_where p row xs ≡ set xs (place_where p xs) row
put-place p row [] h = absurd (omega arith)
put-place p row (x ∷ xs) h =
    by_test (λ b. cond b 0 (suc (place_where p xs)) < suc (length xs) → cond b (row ∷ xs) (x ∷ put_where p row xs) ≡ set (x ∷ xs) (cond b 0 (suc (place_where p xs))) row) (p x) (λ _ _. refl) (λ _ h. ap (λ ys. x ∷ ys) (put-place p row xs (omega arith))) h

-- a row is put at the end where none passes
pub put-end : {A : Type 0} (p : A → Bool) (row : A) (xs : List A) → length xs ≤ place_where p xs → put_where p row xs ≡ xs ++ row ∷ []
put-end p row [] h = refl
put-end p row (x ∷ xs) h =
    by_test (λ b. suc (length xs) ≤ cond b 0 (suc (place_where p xs)) → cond b (row ∷ xs) (x ∷ put_where p row xs) ≡ x ∷ (xs ++ row ∷ [])) (p x) (λ _ h. absurd (omega arith)) (λ _ h. ap (λ ys. x ∷ ys) (put-end p row xs (omega arith))) h

-- after putting, the row is found by its test
pub first-put_same : {A : Type 0} (p : A → Bool) (row other : A) (xs : List A) → p row ≡ true → first_where p other (put_where p row xs) ≡ row
first-put_same p row other [] h = ap (λ b. cond b row other) h
first-put_same p row other (x ∷ xs) h =
    by_test (λ b. b ≡ p x → first_where p other (cond b (row ∷ xs) (x ∷ put_where p row xs)) ≡ row) (p x)
    (λ _ _. ap (λ b. cond b row (first_where p other xs)) h)
    (λ _ e. ap (λ b. cond b x (first_where p other (put_where p row xs))) (sym e) ∙ first-put_same p row other xs h)
    refl

-- a test that passes neither the row nor one that it replaces finds what it found
pub first-put_other : {A : Type 0} (p q : A → Bool) (row other : A) (xs : List A) → ((x : A) → p x ≡ true → q x ≡ false) → q row ≡ false → first_where q other (put_where p row xs) ≡ first_where q other xs
first-put_other p q row other [] apart h = ap (λ b. cond b row other) h
first-put_other p q row other (x ∷ xs) apart h =
    by_test (λ b. b ≡ p x → first_where q other (cond b (row ∷ xs) (x ∷ put_where p row xs)) ≡ cond (q x) x (first_where q other xs)) (p x)
    (λ _ e. ap (λ b. cond b row (first_where q other xs)) h ∙ ap (λ b. cond b x (first_where q other xs)) (sym (apart x (sym e))))
    (λ _ _. ap (λ rest. cond (q x) x rest) (first-put_other p q row other xs apart h))
    refl

-- a place is inside or at the end
pub place_le : {A : Type 0} (p : A → Bool) (xs : List A) → place_where p xs ≤ length xs
place_le p [] = omega arith
place_le p (x ∷ xs) =
    let rest : place_where p xs ≤ length xs = place_le p xs in
    by_test (λ b. cond b 0 (suc (place_where p xs)) ≤ suc (length xs)) (p x) (λ _. omega arith) (λ _. omega arith)

-- the place in what is left of a table, one row on and at the end
pub place-on : {A : Type 0} (p : A → Bool) (xs : List A) (i : ℕ) (d : A) → i < length xs → p (get_or xs i d) ≡ false → i + place_where p (drop i xs) ≡ i + 1 + place_where p (drop (i + 1) xs)
place-on p xs i d h fails =
    ap (λ ys. i + place_where p ys) (drop_more xs i d h)
    ∙ ap (λ b. i + cond b 0 (suc (place_where p (drop (i + 1) xs)))) fails
    ∙ omega arith

pub place-here : {A : Type 0} (p : A → Bool) (xs : List A) (i : ℕ) (d : A) → i < length xs → p (get_or xs i d) ≡ true → i + place_where p (drop i xs) ≡ i
place-here p xs i d h passes =
    ap (λ ys. i + place_where p ys) (drop_more xs i d h)
    ∙ ap (λ b. i + cond b 0 (suc (place_where p (drop (i + 1) xs)))) passes
    ∙ omega arith

pub place-end : {A : Type 0} (p : A → Bool) (xs : List A) (i : ℕ) → length xs ≤ i → i + place_where p (drop i xs) ≡ i
place-end p xs i h = ap (λ ys. i + place_where p ys) (drop_all i xs h) ∙ omega arith

-- the same by a place that was found
pub put-at : {A : Type 0} (p : A → Bool) (row : A) (xs ys : List A) (n : ℕ) → xs ≡ ys → n ≡ place_where p xs → n < length xs → set xs n row ≡ put_where p row ys
put-at p row xs ys n same found inside =
    let below : place_where p xs < length xs = omega arith in
    ap (λ k. set xs k row) found ∙ sym (put-place p row xs below) ∙ ap (put_where p row) same

pub put-past : {A : Type 0} (p : A → Bool) (row : A) (xs ys : List A) (n : ℕ) → xs ≡ ys → n ≡ place_where p xs → length xs ≤ n → xs ++ row ∷ [] ≡ put_where p row ys
put-past p row xs ys n same found past =
    let above : length xs ≤ place_where p xs = omega arith in
    sym (put-end p row xs above) ∙ ap (put_where p row) same

pub first-at : {A : Type 0} (p : A → Bool) (other x : A) (xs ys : List A) (n : ℕ) → xs ≡ ys → n ≡ place_where p xs → n < length xs → x ≡ get_or xs n x → x ≡ first_where p other ys
first-at p other x xs ys n same found inside at =
    get_or_read xs n x inside at other ∙ ap (λ k. get_or xs k other) found ∙ sym (first-place p other xs) ∙ ap (first_where p other) same

pub first-past : {A : Type 0} (p : A → Bool) (other : A) (xs ys : List A) (n : ℕ) → xs ≡ ys → n ≡ place_where p xs → length xs ≤ n → other ≡ first_where p other ys
first-past p other xs ys n same found past =
    let above : length xs ≤ place_where p xs = omega arith in
    sym (get_or_past xs (place_where p xs) other above) ∙ sym (first-place p other xs) ∙ ap (first_where p other) same

-- the same of std's `find`
pub find-put_same : {A : Type 0} (p : A → Bool) (row : A) (xs : List A) → p row ≡ true → find p (put_where p row xs) ≡ Some row
find-put_same p row [] h = ap (λ b. cond b (Some row) None) h
find-put_same p row (x ∷ xs) h =
    by_test (λ b. b ≡ p x → find p (cond b (row ∷ xs) (x ∷ put_where p row xs)) ≡ Some row) (p x)
    (λ _ _. ap (λ b. cond b (Some row) (find p xs)) h)
    (λ _ e. ap (λ b. cond b (Some x) (find p (put_where p row xs))) (sym e) ∙ find-put_same p row xs h)
    refl

pub find-put_other : {A : Type 0} (p q : A → Bool) (row : A) (xs : List A) → ((x : A) → p x ≡ true → q x ≡ false) → q row ≡ false → find q (put_where p row xs) ≡ find q xs
find-put_other p q row [] apart h = ap (λ b. cond b (Some row) None) h
find-put_other p q row (x ∷ xs) apart h =
    by_test (λ b. b ≡ p x → find q (cond b (row ∷ xs) (x ∷ put_where p row xs)) ≡ cond (q x) (Some x) (find q xs)) (p x)
    (λ _ e. ap (λ b. cond b (Some row) (find q xs)) h ∙ ap (λ b. cond b (Some x) (find q xs)) (sym (apart x (sym e))))
    (λ _ _. ap (λ rest. cond (q x) (Some x) rest) (find-put_other p q row xs apart h))
    refl
