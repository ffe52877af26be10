-- Splitting a selection at line ends gives the selection, one part behind the other.
use Rattle.std.proofs.Common.{◌≡◌, ℕ, zero, suc, ◌+◌, ◌-◌, ◌<◌, ◌≤◌, Bool, true, false, eqb, ◌||◌, List, filter, refl, sym, ◌∙◌, subst, arith, inl, inr, ◌⊎◌, eq-eqb}
use Rattle.std.specs.List.{AllByRecursion, range_with_len}
use Rattle.std.proofs.lemmas.Bool.{cases_lt, false≢true, eqb-true}
use Rattle.text_model.proofs.CoordLemmas.{test_cases}
use Rattle.list_model.specs.Ranges.{Range}
use Rattle.list_keys.specs.Cuts.{ends_line, ends_part, parts_between, parts_of}
use Rattle.list_keys.specs.Splitting.{LieFromTo, IsLinePart, SplittingMakesParts}

-- what makes a part end at an offset, and what tells that it doesn't
part-ends : (text : List ℕ) (high o : ℕ) → ends_part text high o ≡ true → (ends_line text o ≡ true) ⊎ (o ≡ high)
part-ends text high o e = cases (ends_line text o) refl e
  where
    cases : (b : Bool) → ends_line text o ≡ b → b || eqb o high ≡ true → (ends_line text o ≡ true) ⊎ (o ≡ high)
    cases true k f = inl k
    cases false k f = inr (eqb-true o high f)

no-end : (text : List ℕ) (high o : ℕ) → ends_part text high o ≡ false → ends_line text o ≡ false
no-end text high o e = cases (ends_line text o) refl e
  where
    cases : (b : Bool) → ends_line text o ≡ b → b || eqb o high ≡ false → ends_line text o ≡ false
    cases true k f = absurd (false≢true (sym f))
    cases false k f = k

last-ends : (text : List ℕ) (high : ℕ) → ends_part text high high ≡ false → ⊥
last-ends text high e = false≢true (sym e ∙ or-true (ends_line text high))
  where
    or-true : (a : Bool) → a || eqb high high ≡ true
    or-true true = refl
    or-true false = eq-eqb high high refl

-- the parts from an offset on, where none of those up to another ends one
pub record ArePartsFrom (text : List ℕ) (turned : Bool) (start high : ℕ) (parts : List Range) : Type 0 where
  pub whole : LieFromTo start high parts
  pub each : AllByRecursion (IsLinePart text turned high) parts

parts-from : (text : List ℕ) (turned : Bool) (high n start from : ℕ) → start ≤ from → from + n ≡ high + 1 → ((o : ℕ) → start ≤ o → o < from → ends_part text high o ≡ false)
    → ArePartsFrom text turned start high (parts_between turned start (filter (ends_part text high) (range_with_len from n)))
parts-from text turned high zero start from l e none =
    elim (cases_lt start from) [
      | inl before ↦ absurd (last-ends text high (none high (omega arith) (omega arith)))
      | inr here ↦ record { whole = omega arith; each = tt }
    ]
parts-from text turned high (suc n) start from l e none =
    elim (test_cases (ends_part text high from)) [
      | inl yes_ends ↦ (let rest : ArePartsFrom text turned (from + 1) high (parts_between turned (from + 1) (filter (ends_part text high) (range_with_len (from + 1) n))) = parts-from text turned high n (from + 1) (from + 1) (omega arith) (omega arith) (λ o a b. absurd (omega arith)) in
          rw yes_ends (record {
            whole = (refl, l, rest.whole);
            each = (record { ends = part-ends text high from yes_ends; on_one_line = λ o a b. no-end text high o (none o a b); turned_alike = refl; aimless = refl }, rest.each);
          }))
      | inr goes_on ↦ rw goes_on (parts-from text turned high n start (from + 1) (omega arith) (omega arith) (λ o a b. further o a b goes_on))
    ]
  where
    further : (o : ℕ) → start ≤ o → o < from + 1 → ends_part text high from ≡ false → ends_part text high o ≡ false
    further o a b k = elim (cases_lt o from) [ inl before ↦ none o a before | inr here ↦ (let same : from ≡ o = omega arith in subst (λ p. ends_part text high p ≡ false) same k) ]

pub splitting_makes_parts : SplittingMakesParts
splitting_makes_parts = record {
  made = λ text r h. (let all : ArePartsFrom text r.turned r.low r.high (parts_of text r) = parts-from text r.turned r.high (r.high + 1 - r.low) r.low r.low (omega arith) (omega arith) (λ o a b. absurd (omega arith)) in
      record { whole = all.whole; each = all.each });
}
