-- The character that holds a cell, as it is found and as it is known.
use Rattle.std.proofs.Common.{◌≡◌, ℕ, zero, suc, ◌+◌, ◌<◌, ◌≤◌, List, length, false, None, Some, refl, sym, ap, subst, ◌∙◌, arith, lt-ltb, true≢false}
use Rattle.std.specs.Prelude.{nat_lt}
use Rattle.std.specs.declared.option.Option.{Option}
use Rattle.std.proofs.lemmas.Bool.{ltb-true, ltb-false}
use Rattle.kak_text.specs.Cells.{display_column}
use Rattle.window_view.proofs.HoldingLemmas.{one_holder}
use Rattle.motion_keys.specs.Extremes.{IsLeastOrNone}
use Rattle.motion_keys.specs.Motions.{held_at, IsHolder}
use Rattle.motion_keys.proofs.ExtremeLemmas.{least-is}

-- the first that ends behind a cell begins at or before it
begins-at : (line : List ℕ) (cell tabstop n : ℕ) → ((k : ℕ) → 0 ≤ k → k < n → nat_lt cell (display_column line (k + 1) tabstop) ≡ false) → display_column line n tabstop ≤ cell
begins-at line cell tabstop zero h = omega arith
begins-at line cell tabstop (suc n) h = let e : n + 1 ≡ suc n = omega arith in subst (λ k. display_column line k tabstop ≤ cell) e (ltb-false cell (display_column line (n + 1) tabstop) (h n (omega arith) (omega arith)))

first-holds : (line : List ℕ) (cell tabstop : ℕ) (found : Option ℕ) → IsLeastOrNone (λ n. nat_lt cell (display_column line (n + 1) tabstop)) 0 (length line) found → IsHolder line cell tabstop found
first-holds line cell tabstop None h = λ n held. true≢false (sym (lt-ltb cell (display_column line (n + 1) tabstop) held.ends) ∙ h n (omega arith) held.inside)
first-holds line cell tabstop (Some n) h = record { inside = h.inside.1; begins = begins-at line cell tabstop n h.least; ends = ltb-true cell (display_column line (n + 1) tabstop) h.passes }

-- what is found holds the cell
pub found-holds : (line : List ℕ) (cell tabstop : ℕ) → IsHolder line cell tabstop (held_at line cell tabstop)
found-holds line cell tabstop = first-holds line cell tabstop (held_at line cell tabstop) (least-is (λ n. nat_lt cell (display_column line (n + 1) tabstop)) 0 (length line))

same-holder : (line : List ℕ) (cell tabstop : ℕ) (a b : Option ℕ) → IsHolder line cell tabstop a → IsHolder line cell tabstop b → a ≡ b
same-holder line cell tabstop None None h k = refl
same-holder line cell tabstop None (Some n) h k = absurd (h n k)
same-holder line cell tabstop (Some m) None h k = absurd (k m h)
same-holder line cell tabstop (Some m) (Some n) h k = ap Some (one_holder line tabstop m n cell h k)

-- nothing else is found
pub held-is : (line : List ℕ) (cell tabstop : ℕ) (found : Option ℕ) → IsHolder line cell tabstop found → found ≡ held_at line cell tabstop
held-is line cell tabstop found h = same-holder line cell tabstop found (held_at line cell tabstop) h (found-holds line cell tabstop)
