-- What a window shows of a line.
use Rattle.std.proofs.Common.{◌≡◌, ℕ, ◌+◌, ◌≤◌, Bool, List, [], ◌∷◌, ◌++◌, length, refl, sym, ap, ap₂, ◌∙◌, arith, append_assoc}
use Rattle.kak_text.specs.Cells.{cells_of, column_behind}
use Rattle.window_view.specs.View.{View}
use Rattle.kak_faces.specs.declared.face.Face.{Face}
use Rattle.line_painting.specs.Atoms.{ShownChar, shown_in}
use Rattle.line_painting.specs.Cells.{right_of, char_drawn}
use Rattle.line_painting.specs.Lines.{shown_from}
use Rattle.line_painting.proofs.CellLemmas.{drawn-behind}

further : (right column cells : ℕ) → right ≤ column → right ≤ column + cells
further right column cells h = omega arith

module _ (tabstop : ℕ) (signs : Bool) where
  -- characters one after another
  pub shown_from-append : (look : ℕ → ℕ → Face) (view : View) (o column : ℕ) (a b : List ℕ)
      → shown_from tabstop signs look view o column (a ++ b) ≡ shown_from tabstop signs look view o column a ++ shown_from tabstop signs look view (o + length a) (column_behind tabstop column a) b
  shown_from-append look view o column [] b = let e : o ≡ o + 0 = omega arith in ap (λ k. shown_from tabstop signs look view k column b) e
  shown_from-append look view o column (c ∷ a) b =
      let e : o + 1 + length a ≡ o + length (c ∷ a) = omega arith in
      let next : ℕ = column + cells_of c column tabstop in
      let first : List ShownChar = shown_in (look o c) (char_drawn signs view column (cells_of c column tabstop) c) in
      ap (λ r. first ++ r) (shown_from-append look view (o + 1) next a b)
      ∙ sym (append_assoc first (shown_from tabstop signs look view (o + 1) next a) (shown_from tabstop signs look view (o + 1 + length a) (column_behind tabstop next a) b))
      ∙ ap (λ k. (first ++ shown_from tabstop signs look view (o + 1) next a) ++ shown_from tabstop signs look view k (column_behind tabstop next a) b) e

  -- nothing is seen right of the window
  pub shown_from-behind : (look : ℕ → ℕ → Face) (view : View) (o column : ℕ) (cs : List ℕ) → right_of view ≤ column → shown_from tabstop signs look view o column cs ≡ []
  shown_from-behind look view o column [] h = refl
  shown_from-behind look view o column (c ∷ cs) h =
      ap₂ (λ x y. shown_in (look o c) x ++ y) (drawn-behind signs view column (cells_of c column tabstop) c h)
      (shown_from-behind look view (o + 1) (column + cells_of c column tabstop) cs (further (right_of view) column (cells_of c column tabstop) h))
