-- The least and the greatest that pass a test are the only ones.
use Rattle.std.proofs.Common.{◌≡◌, ℕ, Bool, true, false, Option, None, Some, refl, sym, ap, ◌∙◌, inl, inr}
use Rattle.std.proofs.lemmas.Bool.{false≢true}
use Rattle.text_model.proofs.PlaceLemmas.{three_ways}
use Rattle.motion_keys.specs.Extremes.{least_between, greatest_below, IsLeastOrNone, IsGreatestOrNone}
use Rattle.motion_keys.proofs.ExtremeLemmas.{least-is, greatest-is}

both_ways : (b : Bool) → b ≡ true → b ≡ false → ⊥
both_ways b h k = false≢true (sym k ∙ h)

one_least : (test : ℕ → Bool) (from limit : ℕ) (r s : Option ℕ) → IsLeastOrNone test from limit r → IsLeastOrNone test from limit s → r ≡ s
one_least test from limit None None h k = refl
one_least test from limit None (Some n) h k = absurd (both_ways (test n) k.passes (h n k.inside.0 k.inside.1))
one_least test from limit (Some m) None h k = absurd (both_ways (test m) h.passes (k m h.inside.0 h.inside.1))
one_least test from limit (Some m) (Some n) h k =
    elim (three_ways m n) [
      | inl lt ↦ absurd (both_ways (test m) h.passes (k.least m h.inside.0 lt))
      | inr rest ↦ elim rest [ inl e ↦ ap Some e | inr gt ↦ absurd (both_ways (test n) k.passes (h.least n k.inside.0 gt)) ]
    ]

pub only-least : (test : ℕ → Bool) (from limit : ℕ) (found : Option ℕ) → IsLeastOrNone test from limit found → least_between test from limit ≡ found
only-least test from limit found h = one_least test from limit (least_between test from limit) found (least-is test from limit) h

one_greatest : (test : ℕ → Bool) (limit : ℕ) (r s : Option ℕ) → IsGreatestOrNone test limit r → IsGreatestOrNone test limit s → r ≡ s
one_greatest test limit None None h k = refl
one_greatest test limit None (Some n) h k = absurd (both_ways (test n) k.passes (h n k.inside))
one_greatest test limit (Some m) None h k = absurd (both_ways (test m) h.passes (k m h.inside))
one_greatest test limit (Some m) (Some n) h k =
    elim (three_ways m n) [
      | inl lt ↦ absurd (both_ways (test n) k.passes (h.greatest n lt k.inside))
      | inr rest ↦ elim rest [ inl e ↦ ap Some e | inr gt ↦ absurd (both_ways (test m) h.passes (k.greatest m gt h.inside)) ]
    ]

pub only-greatest : (test : ℕ → Bool) (limit : ℕ) (found : Option ℕ) → IsGreatestOrNone test limit found → greatest_below test limit ≡ found
only-greatest test limit found h = one_greatest test limit (greatest_below test limit) found (greatest-is test limit) h
