-- The least and the greatest of some numbers that pass a test.
use Rattle.std.specs.Prelude.{◌≡◌, ℕ, zero, suc, ◌+◌, ◌-◌, ◌<◌, ◌≤◌, Bool, true, false, if◌then◌else◌, None, Some}
use Rattle.std.specs.declared.option.Option.{Option}

-- the least of so many numbers, from a number on, that passes a test
abbrev pub least_of : (ℕ → Bool) → ℕ → ℕ → Option ℕ
least_of test from zero = None
least_of test from (suc count) = if test from then Some from else least_of test (from + 1) count

-- the least number from a number on and below a limit that passes a test
abbrev pub least_between : (ℕ → Bool) → ℕ → ℕ → Option ℕ
least_between test from limit = least_of test from (limit - from)

-- the greatest number below a limit that passes a test
abbrev pub greatest_below : (ℕ → Bool) → ℕ → Option ℕ
greatest_below test zero = None
greatest_below test (suc n) = if test n then Some n else greatest_below test n

-- a number passes a test, and lies in a range in which none before it passes
pub record IsLeast (test : ℕ → Bool) (from limit n : ℕ) : Type 0 where
  pub inside : (from ≤ n) × (n < limit)
  pub passes : test n ≡ true
  pub least : (k : ℕ) → from ≤ k → k < n → test k ≡ false

-- a number passes a test, and lies below a limit up to which none behind it passes
pub record IsGreatest (test : ℕ → Bool) (limit n : ℕ) : Type 0 where
  pub inside : n < limit
  pub passes : test n ≡ true
  pub greatest : (k : ℕ) → n < k → k < limit → test k ≡ false

-- the least of a range, or none where none passes
abbrev pub IsLeastOrNone : (ℕ → Bool) → ℕ → ℕ → Option ℕ → Type 0
IsLeastOrNone test from limit None = (k : ℕ) → from ≤ k → k < limit → test k ≡ false
IsLeastOrNone test from limit (Some n) = IsLeast test from limit n

-- the greatest below a limit, or none where none passes
abbrev pub IsGreatestOrNone : (ℕ → Bool) → ℕ → Option ℕ → Type 0
IsGreatestOrNone test limit None = (k : ℕ) → k < limit → test k ≡ false
IsGreatestOrNone test limit (Some n) = IsGreatest test limit n

-- what the definitions find is the least and the greatest, and nothing else is
pub record ExtremesAreFound : Type 0 where
  pub least : (test : ℕ → Bool) (from limit : ℕ) → IsLeastOrNone test from limit (least_between test from limit)
  pub greatest : (test : ℕ → Bool) (limit : ℕ) → IsGreatestOrNone test limit (greatest_below test limit)
  pub only_least : (test : ℕ → Bool) (from limit : ℕ) (found : Option ℕ) → IsLeastOrNone test from limit found → found ≡ least_between test from limit
  pub only_greatest : (test : ℕ → Bool) (limit : ℕ) (found : Option ℕ) → IsGreatestOrNone test limit found → found ≡ greatest_below test limit
