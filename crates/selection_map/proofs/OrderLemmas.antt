-- The order of coordinates.
use Rattle.std.proofs.Common.{◌≡◌, ℕ, ◌<◌, ◌≤◌, Bool, true, false, cond, ◌&&◌, ◌||◌, ◌⊎◌, inl, inr, eqb, leb, leb-true, lt-ltb, le-ltb, eq-eqb, ne_eqb, sym, ap, ◌∙◌, arith}
use Rattle.text_model.specs.declared.coords.Coord.{Coord}
use Rattle.text_model.specs.Coords.{origin, is_at_most}
use Rattle.text_model.proofs.CoordLemmas.{test_cases}
use Rattle.text_model.proofs.PlaceLemmas.{three_ways, leb_true}
use Rattle.selection_map.specs.Rebasing.{earlier}

true-isnt-false : true ≡ false → ⊥
true-isnt-false e = cc

pub not-both : (b : Bool) → b ≡ true → b ≡ false → ⊥
not-both b e f = true-isnt-false (sym e ∙ f)

at_most-line : (a b : Coord) → a.line < b.line → is_at_most a b ≡ true
at_most-line a b h = ap (λ v. v || (eqb a.line b.line && leb a.column b.column)) (lt-ltb a.line b.line h)

at_most-same : (a b : Coord) → a.line ≡ b.line → is_at_most a b ≡ leb a.column b.column
at_most-same a b h =
    ap (λ v. v || (eqb a.line b.line && leb a.column b.column)) (le-ltb a.line b.line (omega arith)) ∙ ap (λ v. v && leb a.column b.column) (eq-eqb a.line b.line h)

pub at_most-later : (a b : Coord) → b.line < a.line → is_at_most a b ≡ false
at_most-later a b h =
    ap (λ v. v || (eqb a.line b.line && leb a.column b.column)) (le-ltb a.line b.line (omega arith)) ∙ ap (λ v. v && leb a.column b.column) (ne_eqb a.line b.line (λ e. omega arith))

-- the two ways in which one coordinate is at most another
abbrev Precedes : Coord → Coord → Type 0
Precedes a b = (a.line < b.line) ⊎ ((a.line ≡ b.line) × (a.column ≤ b.column))

at_most-precedes : (a b : Coord) → is_at_most a b ≡ true → Precedes a b
at_most-precedes a b e =
    elim (three_ways a.line b.line) [
      | inl lt ↦ inl lt
      | inr w ↦ elim w [
        | inl same ↦ inr (same, leb-true a.column b.column (sym (at_most-same a b same) ∙ e))
        | inr gt ↦ absurd (not-both (is_at_most a b) e (at_most-later a b gt))
      ]
    ]

-- what is at most a coordinate lies on no later line
pub at_most-lines : (a b : Coord) → is_at_most a b ≡ true → a.line ≤ b.line
at_most-lines a b e = elim (at_most-precedes a b e) [ inl lt ↦ omega (arith, lt) | inr same ↦ omega (arith, same.0) ]

precedes-at_most : (a b : Coord) → Precedes a b → is_at_most a b ≡ true
precedes-at_most a b (inl lt) = at_most-line a b lt
precedes-at_most a b (inr same) = at_most-same a b same.0 ∙ leb_true a.column b.column same.1

precedes-trans : (a b c : Coord) → Precedes a b → Precedes b c → Precedes a c
precedes-trans a b c (inl h) (inl k) = inl (omega arith)
precedes-trans a b c (inl h) (inr k) = inl (omega (arith, k.0))
precedes-trans a b c (inr h) (inl k) = inl (omega (arith, h.0))
precedes-trans a b c (inr h) (inr k) = inr (omega (arith, h.0, k.0), omega (arith, h.1, k.1))

pub at_most-trans : (a b c : Coord) → is_at_most a b ≡ true → is_at_most b c ≡ true → is_at_most a c ≡ true
at_most-trans a b c h k = precedes-at_most a c (precedes-trans a b c (at_most-precedes a b h) (at_most-precedes b c k))

pub at_most-total : (a b : Coord) → is_at_most a b ≡ false → is_at_most b a ≡ true
at_most-total a b e =
    elim (three_ways a.line b.line) [
      | inl lt ↦ absurd (not-both (is_at_most a b) (at_most-line a b lt) e)
      | inr w ↦ elim w [
        | inl same ↦ precedes-at_most b a (inr (sym same, columns (three_ways a.column b.column) (sym (at_most-same a b same) ∙ e)))
        | inr gt ↦ at_most-line b a gt
      ]
    ]
  where
    columns : (a.column < b.column) ⊎ ((a.column ≡ b.column) ⊎ (b.column < a.column)) → leb a.column b.column ≡ false → b.column ≤ a.column
    columns (inl lt) f = absurd (not-both (leb a.column b.column) (leb_true a.column b.column (omega arith)) f)
    columns (inr (inl same)) f = omega arith
    columns (inr (inr gt)) f = omega arith

-- what isn't at most a coordinate isn't at most an earlier one, and what lies behind one that isn't either
pub not_at_most-behind : (a b c : Coord) → is_at_most a c ≡ false → is_at_most a b ≡ true → is_at_most b c ≡ false
not_at_most-behind a b c e h =
    elim (test_cases (is_at_most b c)) [
      | inl k ↦ absurd (not-both (is_at_most a c) (at_most-trans a b c h k) e)
      | inr k ↦ k
    ]

pub origin-first : (a : Coord) → is_at_most origin a ≡ true
origin-first a =
    elim (three_ways 0 a.line) [
      | inl lt ↦ at_most-line origin a lt
      | inr w ↦ elim w [
        | inl same ↦ precedes-at_most origin a (inr (same, omega arith))
        | inr gt ↦ absurd (omega arith)
      ]
    ]

pub at_most-self : (a : Coord) → is_at_most a a ≡ true
at_most-self a = precedes-at_most a a (inr (omega arith, omega arith))

-- what isn't at most a coordinate isn't at most an earlier one
pub not_at_most-before : (a b c : Coord) → is_at_most a c ≡ false → is_at_most b c ≡ true → is_at_most a b ≡ false
not_at_most-before a b c e h =
    elim (test_cases (is_at_most a b)) [
      | inl k ↦ absurd (not-both (is_at_most a c) (at_most-trans a b c k h) e)
      | inr k ↦ k
    ]

-- the earlier of two is at most the first
pub earlier-first : (a b : Coord) → is_at_most (earlier a b) a ≡ true
earlier-first a b =
    elim (test_cases (is_at_most a b)) [
      | inl e ↦ ap (λ v. is_at_most (cond v a b) a) e ∙ at_most-self a
      | inr e ↦ ap (λ v. is_at_most (cond v a b) a) e ∙ at_most-total a b e
    ]

-- a test of numbers
pub leb-false : (m n : ℕ) → leb m n ≡ false → n < m
leb-false m n e =
    elim (three_ways n m) [
      | inl lt ↦ lt
      | inr w ↦ elim w [
        | inl same ↦ absurd (not-both (leb m n) (leb_true m n (omega arith)) e)
        | inr gt ↦ absurd (not-both (leb m n) (leb_true m n (omega arith)) e)
      ]
    ]
