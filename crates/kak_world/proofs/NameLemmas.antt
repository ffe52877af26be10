-- The least number that isn't among some.
use Rattle.std.proofs.Common.{◌≡◌, ℕ, zero, suc, ◌+◌, ◌<◌, ◌≤◌, Bool, true, false, eqb, ltb, cond, ◌||◌, List, [], ◌∷◌, length, refl, ap, ◌∙◌, subst, arith, inl, inr, eq-eqb, ne_eqb}
use Rattle.std.proofs.lemmas.Bool.{cases_lt, false≢true, lt-ltb, le-ltb}
use Rattle.text_model.proofs.CoordLemmas.{test_cases}
use Rattle.kak_world.specs.Flat.{first_free}
use Rattle.kak_world.specs.Names.{is_taken, IsLeastFree, NamesAreLeast}

-- how many of some numbers lie below another, and how many are that number
abbrev below : ℕ → List ℕ → ℕ
below n [] = 0
below n (m ∷ ms) = cond (ltb m n) 1 0 + below n ms

abbrev equal : ℕ → List ℕ → ℕ
equal n [] = 0
equal n (m ∷ ms) = cond (eqb m n) 1 0 + equal n ms

below-zero : (ms : List ℕ) → below 0 ms ≡ 0
below-zero [] = refl
below-zero (m ∷ ms) = let e : ltb m 0 ≡ false = le-ltb m 0 (omega arith) in ap (λ b. cond b 1 0 + below 0 ms) e ∙ omega (arith, below-zero ms)

one-more : (m n : ℕ) → cond (ltb m (n + 1)) 1 0 ≡ cond (ltb m n) 1 0 + cond (eqb m n) 1 0
one-more m n =
    elim (cases_lt m n) [
      | inl lt ↦ rw (lt-ltb m (n + 1) (omega arith), lt-ltb m n lt, ne_eqb m n (λ e. absurd (omega (arith, e)))) refl
      | inr ge ↦ elim (cases_lt n m) [
        | inl gt ↦ rw (le-ltb m (n + 1) (omega arith), le-ltb m n ge, ne_eqb m n (λ e. absurd (omega (arith, e)))) refl
        | inr le ↦ rw (lt-ltb m (n + 1) (omega arith), le-ltb m n ge, eq-eqb m n (omega arith)) refl
      ]
    ]

below-more : (n : ℕ) (ms : List ℕ) → below (n + 1) ms ≡ below n ms + equal n ms
below-more n [] = refl
below-more n (m ∷ ms) = omega (arith, one-more m n, below-more n ms)

below-few : (n : ℕ) (ms : List ℕ) → below n ms ≤ length ms
below-few n [] = omega arith
below-few n (m ∷ ms) = omega (arith, below-few n ms, at-most (ltb m n))
  where
    at-most : (b : Bool) → cond b 1 0 ≤ 1
    at-most true = omega arith
    at-most false = omega arith

-- a number that is there is there once at least
taken-equal : (n : ℕ) (ms : List ℕ) → is_taken n ms ≡ true → 1 ≤ equal n ms
taken-equal n [] h = absurd (false≢true h)
taken-equal n (m ∷ ms) h = cases (eqb m n) (taken-equal n ms) h
  where
    cases : (b : Bool) → (is_taken n ms ≡ true → 1 ≤ equal n ms) → b || is_taken n ms ≡ true → 1 ≤ cond b 1 0 + equal n ms
    cases true f k = omega arith
    cases false f k = omega (arith, f k)

-- where all numbers below one are there, there are as many
all-taken : (n : ℕ) (ms : List ℕ) → ((k : ℕ) → k < n → is_taken k ms ≡ true) → n ≤ below n ms
all-taken zero ms h = omega arith
all-taken (suc n) ms h =
    let e : n + 1 ≡ suc n = omega arith in
    let before : n ≤ below n ms = all-taken n ms (λ k l. h k (omega arith)) in
    let here : 1 ≤ equal n ms = taken-equal n ms (h n (omega arith)) in
    subst (λ m. m ≤ below m ms) e (omega (arith, below-more n ms, before, here))

-- as many numbers as there are, from zero on, and one more aren't all there
some-free : (ms : List ℕ) → ((k : ℕ) → k < length ms → is_taken k ms ≡ true) → is_taken (length ms) ms ≡ false
some-free ms h =
    elim (test_cases (is_taken (length ms) ms)) [
      | inl there ↦ absurd (omega (arith, all-taken (length ms + 1) ms (λ k l. upto k l there), below-few (length ms + 1) ms))
      | inr free ↦ free
    ]
  where
    upto : (k : ℕ) → k < length ms + 1 → is_taken (length ms) ms ≡ true → is_taken k ms ≡ true
    upto k l there = elim (cases_lt k (length ms)) [ inl lt ↦ h k lt | inr ge ↦ (let same : length ms ≡ k = omega arith in subst (λ n. is_taken n ms ≡ true) same there) ]

first-free : (left n : ℕ) (ms : List ℕ) → n + left ≡ length ms → ((k : ℕ) → k < n → is_taken k ms ≡ true) → IsLeastFree ms (first_free left n ms)
first-free zero n ms e h =
    let same : length ms ≡ n = omega arith in
    record { free = subst (λ m. is_taken m ms ≡ false) same (some-free ms (λ k l. h k (omega arith))); taken_below = h }
first-free (suc left) n ms e h =
    elim (test_cases (is_taken n ms)) [
      | inl there ↦ rw there (first-free left (n + 1) ms (omega arith) (λ k l. upto k l there))
      | inr free ↦ rw free (record { free = free; taken_below = h })
    ]
  where
    upto : (k : ℕ) → k < n + 1 → is_taken n ms ≡ true → is_taken k ms ≡ true
    upto k l there = elim (cases_lt k n) [ inl lt ↦ h k lt | inr ge ↦ (let same : n ≡ k = omega arith in subst (λ m. is_taken m ms ≡ true) same there) ]

pub names_are_least : NamesAreLeast
names_are_least numbers = first-free (length numbers) 0 numbers (omega arith) (λ k l. absurd (omega arith))
