-- What a window shows of characters of one cell.
use Rattle.std.proofs.Common.{◌≡◌, ℕ, zero, suc, ◌+◌, ◌-◌, ◌<◌, ◌≤◌, ◌%◌, max, Bool, true, false, ◌==◌, eqb, leb, List, [], ◌∷◌, ◌++◌, take, drop, replicate, refl, sym, ap, ap₂, ◌∙◌, arith, inl, inr, ne_eqb}
use Rattle.std.specs.Prelude.{if◌then◌else◌}
use Rattle.std.specs.List.{AllByRecursion}
use Rattle.std.proofs.lemmas.Bool.{cases_lt}
use Rattle.text_model.proofs.PlaceLemmas.{leb_true, leb_false}
use Rattle.unicode_width.specs.Width.{char_width}
use Rattle.kak_text.specs.Cells.{cells_of, width_of}
use Rattle.kak_text.proofs.CellLemmas.{printable-width}
use Rattle.window_view.specs.View.{View, text_columns}
use Rattle.kak_faces.specs.declared.face.Face.{Face}
use Rattle.line_painting.specs.Atoms.{ShownChar, shown_in}
use Rattle.line_painting.specs.Cells.{right_of, cells_inside, whole_drawn, char_drawn}
use Rattle.line_painting.specs.Lines.{shown_from}
use Rattle.line_painting.specs.Laws.{IsPlainChar, faced_from, PlainLinesAreCut, AsciiIsPlain}
use Rattle.line_painting.proofs.LineLemmas.{shown_from-behind}

plain-before : (signs : Bool) (view : View) (column c : ℕ) → column < view.left → char_drawn signs view column 1 c ≡ []
plain-before signs view column c h =
    let z : cells_inside view column 1 ≡ 0 = omega arith in
    ap (λ n. if n == 1 then whole_drawn signs c 1 else replicate n 32) z

pub plain-within : (signs : Bool) (view : View) (column c : ℕ) → view.left ≤ column → column < right_of view → whole_drawn signs c 1 ≡ c ∷ [] → char_drawn signs view column 1 c ≡ c ∷ []
plain-within signs view column c h k itself =
    let z : cells_inside view column 1 ≡ 1 = omega arith in
    ap (λ n. if n == 1 then whole_drawn signs c 1 else replicate n 32) z ∙ itself

nothing_left : (n m : ℕ) (none : List ShownChar) → none ≡ [] → take n (drop m none) ≡ []
nothing_left zero m none e = refl
nothing_left (suc n) zero none e = ap (take (suc n)) e
nothing_left (suc n) (suc m) none e = ap (λ l. take (suc n) (drop (suc m) l)) e

graphic_itself : (signs : Bool) (c : ℕ) → 0x21 ≤ c → c < 0x7F → whole_drawn signs c 1 ≡ c ∷ []
graphic_itself signs c h k =
    let tab : eqb c 9 ≡ false = ne_eqb c 9 (λ e. omega arith) in
    let newline : eqb c 10 ≡ false = ne_eqb c 10 (λ e. omega arith) in
    let space : eqb c 32 ≡ false = ne_eqb c 32 (λ e. omega arith) in
    let zero : leb 0 c ≡ true = leb_true 0 c (omega arith) in
    let low : leb c 0x1F ≡ false = leb_false c 0x1F (omega arith) in
    let high : leb 0x7F c ≡ false = leb_false 0x7F c k in
    rw (tab, newline, space, zero, low, high) refl

module _ (tabstop : ℕ) (signs : Bool) where
  plain-from : (look : ℕ → ℕ → Face) (view : View) (o column : ℕ) (line : List ℕ) → AllByRecursion (IsPlainChar signs) line
      → shown_from tabstop signs look view o column line ≡ take (right_of view - max column view.left) (drop (view.left - column) (faced_from look o line))
  plain-from look view o column [] h = sym (nothing_left (right_of view - max column view.left) (view.left - column) [] refl)
  plain-from look view o column (c ∷ cs) h =
      let f : ShownChar = record { char = c; face = look o c } in
      let fs : List ShownChar = faced_from look (o + 1) cs in
      let right : ℕ = right_of view in
      let first : shown_from tabstop signs look view o column (c ∷ cs) ≡ shown_in (look o c) (char_drawn signs view column 1 c) ++ shown_from tabstop signs look view (o + 1) (column + 1) cs =
      ap (λ w. shown_in (look o c) (char_drawn signs view column w c) ++ shown_from tabstop signs look view (o + 1) (column + w) cs) (h.0.one_cell column tabstop) in
      let rest : shown_from tabstop signs look view (o + 1) (column + 1) cs ≡ take (right - max (column + 1) view.left) (drop (view.left - (column + 1)) fs) = plain-from look view (o + 1) (column + 1) cs h.1 in
      elim (cases_lt column view.left) [
        | inl lt ↦
            let d : view.left - column ≡ suc (view.left - (column + 1)) = omega arith in
            let t : right - max (column + 1) view.left ≡ right - max column view.left = omega arith in
            first ∙ ap₂ (λ x y. shown_in (look o c) x ++ y) (plain-before signs view column c lt) rest
            ∙ ap (λ n. take n (drop (view.left - (column + 1)) fs)) t
            ∙ ap (λ m. take (right - max column view.left) (drop m (f ∷ fs))) (sym d)
        | inr ge ↦ elim (cases_lt column (right_of view)) [
          | inl lt ↦
              let d : view.left - column ≡ 0 = omega arith in
              let e : view.left - (column + 1) ≡ 0 = omega arith in
              let t : right - max column view.left ≡ suc (right - max (column + 1) view.left) = omega arith in
              first ∙ ap₂ (λ x y. shown_in (look o c) x ++ y) (plain-within signs view column c ge lt h.0.itself) rest
              ∙ ap (λ m. f ∷ take (right - max (column + 1) view.left) (drop m fs)) e
              ∙ sym (ap₂ (λ n m. take n (drop m (f ∷ fs))) t d)
          | inr le ↦
              let t : right - max column view.left ≡ 0 = omega arith in
              shown_from-behind tabstop signs look view o column (c ∷ cs) le
              ∙ sym (ap (λ n. take n (drop (view.left - column) (f ∷ fs))) t)
        ]
      ]

-- a line of plain characters is cut as a list is
pub plain_lines : PlainLinesAreCut
plain_lines tabstop signs look view o line h =
    let n : right_of view - max 0 view.left ≡ text_columns view 0 = omega arith in
    let m : view.left - 0 ≡ view.left = omega arith in
    plain-from tabstop signs look view o 0 line h ∙ ap₂ (λ a b. take a (drop b (faced_from look o line))) n m

printable_cells : (c : ℕ) → 0x20 ≤ c → c < 0x7F → (column tabstop : ℕ) → cells_of c column tabstop ≡ 1
printable_cells c h k column tabstop =
    ap (λ t. if t then tabstop - column % tabstop else width_of c) (ne_eqb c 9 (λ e. omega arith)) ∙ printable-width c h k

newline_cells : (column tabstop : ℕ) → cells_of 10 column tabstop ≡ 1
unfolding char_width
newline_cells column tabstop = refl

pub ascii : AsciiIsPlain
ascii = record {
  graphic = λ signs c h k. record { one_cell = printable_cells c (omega (arith, h)) k; itself = graphic_itself signs c h k };
  space = record { one_cell = printable_cells 32 (omega arith) (omega arith); itself = refl };
  newline = record { one_cell = newline_cells; itself = refl };
}
