-- Finding the least and the greatest, step by step.
use Rattle.std.proofs.Common.{◌≡◌, ℕ, zero, suc, ◌+◌, ◌-◌, ◌<◌, ◌≤◌, Bool, true, false, cond, Option, None, Some, refl, sym, ap, subst, ◌∙◌, arith, inl, inr, ◌⊎◌}
use Rattle.std.proofs.lemmas.Bool.{cases_lt, false≢true}
use Rattle.text_model.proofs.CoordLemmas.{test_cases}
use Rattle.motion_keys.specs.Extremes.{least_of, least_between, greatest_below, IsLeastOrNone, IsGreatestOrNone}

least-choice : (test : ℕ → Bool) (from limit : ℕ) → from < limit → least_between test from limit ≡ cond (test from) (Some from) (least_between test (from + 1) limit)
least-choice test from limit h = let e : limit - from ≡ suc (limit - (from + 1)) = omega arith in ap (least_of test from) e

-- the least, where the first one passes, where it doesn't, and where there is none
pub least-here : (test : ℕ → Bool) (from limit : ℕ) → from < limit → test from ≡ true → least_between test from limit ≡ Some from
least-here test from limit h e = least-choice test from limit h ∙ ap (λ b. cond b (Some from) (least_between test (from + 1) limit)) e

pub least-later : (test : ℕ → Bool) (from limit : ℕ) → from < limit → test from ≡ false → least_between test from limit ≡ least_between test (from + 1) limit
least-later test from limit h e = least-choice test from limit h ∙ ap (λ b. cond b (Some from) (least_between test (from + 1) limit)) e

pub least-none : (test : ℕ → Bool) (from limit : ℕ) → limit ≤ from → least_between test from limit ≡ None
least-none test from limit h = let e : limit - from ≡ zero = omega arith in ap (least_of test from) e

-- the greatest, where the last one passes, where it doesn't, and where there is none
pub greatest-here : (test : ℕ → Bool) (n limit : ℕ) → n + 1 ≡ limit → test n ≡ true → greatest_below test limit ≡ Some n
greatest-here test n limit h e = let s : limit ≡ suc n = omega arith in ap (greatest_below test) s ∙ ap (λ b. cond b (Some n) (greatest_below test n)) e

pub greatest-earlier : (test : ℕ → Bool) (n limit : ℕ) → n + 1 ≡ limit → test n ≡ false → greatest_below test limit ≡ greatest_below test n
greatest-earlier test n limit h e = let s : limit ≡ suc n = omega arith in ap (greatest_below test) s ∙ ap (λ b. cond b (Some n) (greatest_below test n)) e

same_or_more : (m k : ℕ) → m ≤ k → (m ≡ k) ⊎ (m + 1 ≤ k)
same_or_more m k l = grind arith

same_or_less : (k m : ℕ) → k < suc m → (m ≡ k) ⊎ (k < m)
same_or_less k m l = grind arith

-- what is found is the least
least-of-is : (test : ℕ → Bool) (count from limit : ℕ) → from + count ≡ limit → IsLeastOrNone test from limit (least_of test from count)
least-of-is test zero from limit e = λ k l h. absurd (omega arith)
least-of-is test (suc count) from limit e =
    elim (test_cases (test from)) [
      | inl t ↦ subst (IsLeastOrNone test from limit) (sym (ap (λ b. cond b (Some from) (least_of test (from + 1) count)) t)) (record { inside = (omega arith, omega arith); passes = t; least = λ k l h. absurd (omega arith) })
      | inr f ↦ subst (IsLeastOrNone test from limit) (sym (ap (λ b. cond b (Some from) (least_of test (from + 1) count)) f)) (later f (least_of test (from + 1) count) (least-of-is test count (from + 1) limit (omega arith)))
    ]
  where
    first_or : test from ≡ false → (k : ℕ) → from ≤ k → (from + 1 ≤ k → test k ≡ false) → test k ≡ false
    first_or f k l g = elim (same_or_more from k l) [ inl e ↦ subst (λ n. test n ≡ false) e f | inr h ↦ g h ]

    later : test from ≡ false → (found : Option ℕ) → IsLeastOrNone test (from + 1) limit found → IsLeastOrNone test from limit found
    later f None h = λ k l m. first_or f k l (λ g. h k g m)
    later f (Some n) h = record { inside = (omega (arith, h.inside.0), h.inside.1); passes = h.passes; least = λ k l m. first_or f k l (λ g. h.least k g m) }

pub least-is : (test : ℕ → Bool) (from limit : ℕ) → IsLeastOrNone test from limit (least_between test from limit)
least-is test from limit =
    elim (ways from limit) [
      | inl l ↦ least-of-is test (limit - from) from limit (omega arith)
      | inr g ↦ subst (IsLeastOrNone test from limit) (sym (least-none test from limit (omega arith))) (λ k l h. absurd (omega arith))
    ]
  where
    ways : (a b : ℕ) → (a ≤ b) ⊎ (b < a)
    ways a b = grind arith

-- and the greatest
pub greatest-is : (test : ℕ → Bool) (limit : ℕ) → IsGreatestOrNone test limit (greatest_below test limit)
greatest-is test zero = λ k h. absurd (omega arith)
greatest-is test (suc n) =
    elim (test_cases (test n)) [
      | inl t ↦ subst (IsGreatestOrNone test (suc n)) (sym (ap (λ b. cond b (Some n) (greatest_below test n)) t)) (record { inside = omega arith; passes = t; greatest = λ k l h. absurd (omega arith) })
      | inr f ↦ subst (IsGreatestOrNone test (suc n)) (sym (ap (λ b. cond b (Some n) (greatest_below test n)) f)) (earlier f (greatest_below test n) (greatest-is test n))
    ]
  where
    last_or : test n ≡ false → (k : ℕ) → k < suc n → (k < n → test k ≡ false) → test k ≡ false
    last_or f k l g = elim (same_or_less k n l) [ inl e ↦ subst (λ m. test m ≡ false) e f | inr h ↦ g h ]

    earlier : test n ≡ false → (found : Option ℕ) → IsGreatestOrNone test n found → IsGreatestOrNone test (suc n) found
    earlier f None h = λ k l. last_or f k l (λ g. h k g)
    earlier f (Some m) h = record { inside = omega (arith, h.inside); passes = h.passes; greatest = λ k l g. last_or f k g (λ i. h.greatest k l i) }

-- ---- only that is found

clash : (b : Bool) → b ≡ true → b ≡ false → ⊥
clash b h k = false≢true (sym k ∙ h)

one-least : (test : ℕ → Bool) (from limit : ℕ) (r s : Option ℕ) → IsLeastOrNone test from limit r → IsLeastOrNone test from limit s → r ≡ s
one-least test from limit None None h k = refl
one-least test from limit None (Some n) h k = absurd (clash (test n) k.passes (h n k.inside.0 k.inside.1))
one-least test from limit (Some m) None h k = absurd (clash (test m) h.passes (k m h.inside.0 h.inside.1))
one-least test from limit (Some m) (Some n) h k =
    elim (cases_lt m n) [
      | inl lt ↦ absurd (clash (test m) h.passes (k.least m h.inside.0 lt))
      | inr ge ↦ elim (cases_lt n m) [
        | inl gt ↦ absurd (clash (test n) k.passes (h.least n k.inside.0 gt))
        | inr le ↦ let e : m ≡ n = omega arith in ap Some e
      ]
    ]

pub only-least : (test : ℕ → Bool) (from limit : ℕ) (found : Option ℕ) → IsLeastOrNone test from limit found → found ≡ least_between test from limit
only-least test from limit found h = one-least test from limit found (least_between test from limit) h (least-is test from limit)

one-greatest : (test : ℕ → Bool) (limit : ℕ) (r s : Option ℕ) → IsGreatestOrNone test limit r → IsGreatestOrNone test limit s → r ≡ s
one-greatest test limit None None h k = refl
one-greatest test limit None (Some n) h k = absurd (clash (test n) k.passes (h n k.inside))
one-greatest test limit (Some m) None h k = absurd (clash (test m) h.passes (k m h.inside))
one-greatest test limit (Some m) (Some n) h k =
    elim (cases_lt m n) [
      | inl lt ↦ absurd (clash (test n) k.passes (h.greatest n lt k.inside))
      | inr ge ↦ elim (cases_lt n m) [
        | inl gt ↦ absurd (clash (test m) h.passes (k.greatest m gt h.inside))
        | inr le ↦ let e : m ≡ n = omega arith in ap Some e
      ]
    ]

pub only-greatest : (test : ℕ → Bool) (limit : ℕ) (found : Option ℕ) → IsGreatestOrNone test limit found → found ≡ greatest_below test limit
only-greatest test limit found h = one-greatest test limit found (greatest_below test limit) h (greatest-is test limit)
