-- What a window shows of a character.
use Rattle.std.proofs.Common.{◌≡◌, ℕ, ◌≤◌, Bool, true, false, ◌&&◌, ◌==◌, leb, ltb, List, [], ◌∷◌, replicate, refl, ap, ◌∙◌, arith, inl, inr, le-ltb, ne_eqb, eq-eqb}
use Rattle.std.specs.Prelude.{if◌then◌else◌}
use Rattle.std.proofs.lemmas.Bool.{cases_lt}
use Rattle.window_view.specs.View.{View}
use Rattle.line_painting.specs.Cells.{right_of, is_inside, cells_inside, whole_drawn, char_drawn}

and_false : (a b : Bool) → b ≡ false → (a && b) ≡ false
and_false true b e = e
and_false false b e = refl

-- a column right of the window is none of its
inside-behind : (view : View) (column : ℕ) → right_of view ≤ column → is_inside view column ≡ false
inside-behind view column h = and_false (leb view.left column) (ltb column (right_of view)) (le-ltb column (right_of view) h)

-- nothing is drawn of a character right of the window
pub drawn-behind : (signs : Bool) (view : View) (column cells c : ℕ) → right_of view ≤ column → char_drawn signs view column cells c ≡ []
drawn-behind signs view column cells c h =
    let by_cells : Bool → List ℕ = λ t. if t then (if is_inside view column then c ∷ [] else [])
    else (if cells_inside view column cells == cells then whole_drawn signs c cells else replicate (cells_inside view column cells) 32) in
    elim (cases_lt 0 cells) [
      | inl lt ↦
          let z : cells_inside view column cells ≡ 0 = omega arith in
          let some : (cells == 0) ≡ false = ne_eqb cells 0 (λ e. omega arith) in
          let others : (0 == cells) ≡ false = ne_eqb 0 cells (λ e. omega arith) in
          ap by_cells some
          ∙ ap (λ n. if n == cells then whole_drawn signs c cells else replicate n 32) z
          ∙ ap (λ t. if t then whole_drawn signs c cells else replicate 0 32) others
      | inr ge ↦
          let none : (cells == 0) ≡ true = eq-eqb cells 0 (omega arith) in
          ap by_cells none ∙ ap (λ t. if t then c ∷ [] else []) (inside-behind view column h)
    ]
