-- Lemmas on which character holds a cell.
use Rattle.std.proofs.Common.{◌≡◌, ℕ, ◌+◌, ◌<◌, ◌≤◌, List, length, get_or, sym, ap, ◌∙◌, arith, inl, inr}
use Rattle.std.proofs.lemmas.Bool.{cases_lt}
use Rattle.kak_text.specs.Cells.{cells_of, display_column}
use Rattle.kak_text.proofs.CellLemmas.{display_column-le, display_column-more}
use Rattle.window_view.specs.Holding.{HoldsCell}

-- the next place, where a character was read and its cells were counted
pub next_column : (line : List ℕ) (n tabstop at char width : ℕ) → n < length line → char ≡ get_or line n 0 → at ≡ display_column line n tabstop → width ≡ cells_of char at tabstop
    → at + width ≡ display_column line (n + 1) tabstop
next_column line n tabstop at char width l r e f =
    let g : width ≡ cells_of (get_or line n 0) (display_column line n tabstop) tabstop = f ∙ ap (λ x. cells_of x at tabstop) r ∙ ap (λ x. cells_of (get_or line n 0) x tabstop) e in
    ap (λ x. x + width) e ∙ ap (λ x. display_column line n tabstop + x) g ∙ sym (display_column-more line n tabstop l)

-- a character whose end lies behind the cell, and whose begin doesn't, holds it
pub holds : (line : List ℕ) (n tabstop at «end» cell : ℕ) → n < length line → at ≡ display_column line n tabstop → «end» ≡ display_column line (n + 1) tabstop → at ≤ cell → cell < «end» → HoldsCell line tabstop n cell
holds line n tabstop at «end» cell l e f h k = record { inside = l; begins = omega arith; ends = omega arith }

-- no character holds a cell behind the line
pub none_behind : (line : List ℕ) (tabstop cell at e : ℕ) → at ≡ display_column line e tabstop → at ≤ cell → length line ≤ e → (n : ℕ) → HoldsCell line tabstop n cell → ⊥
none_behind line tabstop cell at e d h l n held = omega (arith, display_column-le line (n + 1) e tabstop (omega (arith, held.inside)), held.ends)

-- a character before another doesn't hold what the other holds
none_before : (line : List ℕ) (tabstop m n cell : ℕ) → HoldsCell line tabstop m cell → HoldsCell line tabstop n cell → m < n → ⊥
none_before line tabstop m n cell a b h = omega (arith, display_column-le line (m + 1) n tabstop (omega arith), a.ends, b.begins)

pub one_holder : (line : List ℕ) (tabstop m n cell : ℕ) → HoldsCell line tabstop m cell → HoldsCell line tabstop n cell → m ≡ n
one_holder line tabstop m n cell a b =
    elim (cases_lt m n) [
      | inl lt ↦ absurd (none_before line tabstop m n cell a b lt)
      | inr ge ↦ elim (cases_lt n m) [
        | inl gt ↦ absurd (none_before line tabstop n m cell b a gt)
        | inr le ↦ omega arith
      ]
    ]
