-- The lines of a window, drawn one after another.
use Rattle.std.proofs.Common.{◌≡◌, ℕ, zero, suc, ◌+◌, ◌-◌, ◌<◌, ◌≤◌, min, List, [], ◌∷◌, ◌++◌, length, take, drop, get_or, refl, sym, ap, ap₂, ◌∙◌, arith, inl, inr, length-append, length-drop, length-take}
use Rattle.std.proofs.lemmas.Bool.{cases_lt}
use Rattle.std.proofs.Math.Seq.{take-add}
use Rattle.std.proofs.lemmas.List.{get_or-drop, drop_min, take_min}
use Rattle.text_model.specs.Texts.{joined, lines_of}
use Rattle.text_model.proofs.LineLemmas.{joined-append}
use Rattle.drawings.specs.declared.drawing.DrawnLine.{DrawnLine}
use Rattle.kak_faces.specs.declared.face.Face.{Face}
use Rattle.line_painting.specs.Atoms.{ShownChar, atoms_of}
use Rattle.line_painting.specs.Lines.{Looks, face_at, face_on, numbers_shown, line_drawn, drawn_from, drawn_lines}
use Rattle.line_painting.specs.Painting.{lines_in}
use Rattle.line_painting.proofs.DrawnLemmas.{same-looks}

module _ (looks : Looks) (count : ℕ) where
  drawn_from-more : (o n : ℕ) (ls : List (List ℕ)) (k : ℕ) → k < length ls
      → drawn_from looks count o n (take (k + 1) ls) ≡ drawn_from looks count o n (take k ls) ++ line_drawn looks count (o + length (joined (take k ls))) (n + k) (get_or ls k []) ∷ []
  drawn_from-more o n [] k h = absurd (omega arith)
  drawn_from-more o n (l ∷ ls) zero h =
      let e : o ≡ o + 0 = omega arith in
      let f : n ≡ n + 0 = omega arith in
      ap₂ (λ s m. line_drawn looks count s m l ∷ []) e f
  drawn_from-more o n (l ∷ ls) (suc k) h =
      let e : suc k + 1 ≡ suc (k + 1) = omega arith in
      let f : n + 1 + k ≡ n + suc k = omega arith in
      let s : o + length l + length (joined (take k ls)) ≡ o + length (l ++ joined (take k ls)) = omega (arith, length-append l (joined (take k ls))) in
      ap (λ m. drawn_from looks count o n (take m (l ∷ ls))) e
      ∙ ap (λ r. line_drawn looks count o n l ∷ r) (drawn_from-more (o + length l) (n + 1) ls k (omega arith)
      ∙ ap₂ (λ x y. drawn_from looks count (o + length l) (n + 1) (take k ls) ++ line_drawn looks count x y (get_or ls k []) ∷ []) s f)

  -- one more line of the window
  pub window-more : (ls : List (List ℕ)) (top n : ℕ) → top ≤ n → n < length ls
      → drawn_from looks count (length (joined (take top ls))) top (take (n - top) (drop top ls)) ++ line_drawn looks count (length (joined (take n ls))) n (get_or ls n []) ∷ []
      ≡ drawn_from looks count (length (joined (take top ls))) top (take (n + 1 - top) (drop top ls))
  window-more ls top n h k =
      let o : ℕ = length (joined (take top ls)) in
      let on : n + 1 - top ≡ n - top + 1 = omega arith in
      let at : top + (n - top) ≡ n = omega arith in
      let here : get_or (drop top ls) (n - top) [] ≡ get_or ls n [] = get_or-drop top ls (n - top) [] ∙ ap (λ m. get_or ls m []) at in
      let front : joined (take n ls) ≡ joined (take top ls) ++ joined (take (n - top) (drop top ls)) =
      ap (λ m. joined (take m ls)) (sym at) ∙ ap joined (take-add top (n - top) ls) ∙ joined-append (take top ls) (take (n - top) (drop top ls)) in
      let start : length (joined (take n ls)) ≡ o + length (joined (take (n - top) (drop top ls))) =
      ap length front ∙ length-append (joined (take top ls)) (joined (take (n - top) (drop top ls))) in
      let old : List DrawnLine = drawn_from looks count o top (take (n - top) (drop top ls)) in
      sym (ap (λ m. drawn_from looks count o top (take m (drop top ls))) on
      ∙ drawn_from-more o top (drop top ls) (n - top) (omega (arith, length-drop top ls))
      ∙ ap₂ (λ s l. old ++ line_drawn looks count s (top + (n - top)) l ∷ []) (sym start) here
      ∙ ap (λ m. old ++ line_drawn looks count (length (joined (take n ls))) m (get_or ls n []) ∷ []) at)

  nothing_drawn : (o n : ℕ) (ls : List (List ℕ)) → length ls ≤ 0 → drawn_from looks count o n ls ≡ []
  nothing_drawn o n [] h = refl
  nothing_drawn o n (l ∷ ls) h = absurd (omega (arith, h))

  -- all lines of the window
  pub window-all : (ls : List (List ℕ)) (top n : ℕ) → top ≡ min (length ls) looks.view.top → n ≡ min (length ls) (top + looks.view.rows)
      → drawn_from looks count (length (joined (take top ls))) top (take (n - top) (drop top ls))
      ≡ drawn_from looks count (length (joined (take looks.view.top ls))) looks.view.top (take looks.view.rows (drop looks.view.top ls))
  window-all ls top n e f =
      let wide : ℕ = looks.view.top in
      let t : top ≡ min wide (length ls) = omega arith in
      let rows : n - top ≡ min looks.view.rows (length (drop top ls)) = omega (arith, length-drop top ls) in
      let front : take top ls ≡ take wide ls = ap (λ m. take m ls) t ∙ take_min wide ls in
      let rest : drop top ls ≡ drop wide ls = ap (λ m. drop m ls) t ∙ drop_min wide ls in
      let part : take (n - top) (drop top ls) ≡ take looks.view.rows (drop wide ls) = ap (λ m. take m (drop top ls)) rows ∙ take_min looks.view.rows (drop top ls) ∙ ap (take looks.view.rows) rest in
      ap₂ (λ a b. drawn_from looks count (length (joined a)) top b) front part
      ∙ elim (cases_lt wide (length ls)) [
        | inl lt ↦ let same : top ≡ wide = omega arith in ap (λ m. drawn_from looks count (length (joined (take wide ls))) m (take looks.view.rows (drop wide ls))) same
        | inr le ↦
            let none : length (take looks.view.rows (drop wide ls)) ≤ 0 = omega (arith, length-drop wide ls, le, short looks.view.rows (drop wide ls)) in
            nothing_drawn (length (joined (take wide ls))) top (take looks.view.rows (drop wide ls)) none
            ∙ sym (nothing_drawn (length (joined (take wide ls))) wide (take looks.view.rows (drop wide ls)) none)
      ]
    where
      short : (k : ℕ) (xs : List (List ℕ)) → length (take k xs) ≤ length xs
      short zero xs = omega arith
      short (suc k) [] = omega arith
      short (suc k) (x ∷ xs) = let h : length (take k xs) ≤ length xs = short k xs in omega (arith, h)

-- how many lines a window shows
pub lines-length : (ls : List (List ℕ)) (top rows : ℕ) → length (take rows (drop top ls)) ≡ min rows (length ls - top)
lines-length ls top rows = omega (arith, length-take rows (drop top ls), length-drop top ls)

-- other faces below the selections, that are the same on the lines that are drawn
abbrev pub with_base : Looks → (ℕ → ℕ → Face) → Looks
with_base looks base = record looks { base = base }

line-same : (looks : Looks) (base : ℕ → ℕ → Face) (count o n : ℕ) (line : List ℕ) → ((i : ℕ) → looks.base n i ≡ base n i) → line_drawn looks count o n line ≡ line_drawn (with_base looks base) count o n line
line-same looks base count o n line h =
    let all : List ShownChar → DrawnLine = λ shown. record { atoms = atoms_of (numbers_shown looks count n ++ shown) } in
    ap all (same-looks looks.tabstop looks.signs (face_on looks.palette looks.sels (looks.base n) o) (face_on looks.palette looks.sels (base n) o) looks.view 0 0 line
    (λ i l. ap (face_at looks.palette looks.sels (o + (0 + i)) (get_or line i 0)) (h (0 + i))))

from-same : (looks : Looks) (base : ℕ → ℕ → Face) (count o n : ℕ) (ls : List (List ℕ)) → ((k i : ℕ) → k < length ls → looks.base (n + k) i ≡ base (n + k) i)
    → drawn_from looks count o n ls ≡ drawn_from (with_base looks base) count o n ls
from-same looks base count o n [] h = refl
from-same looks base count o n (l ∷ ls) h =
    let e : n + 0 ≡ n = omega arith in
    ap₂ (λ x y. x ∷ y) (line-same looks base count o n l (λ i. ap (λ m. looks.base m i) (sym e) ∙ h 0 i (omega arith) ∙ ap (λ m. base m i) e))
    (from-same looks base count (o + length l) (n + 1) ls
    (λ k i x. let f : n + 1 + k ≡ n + suc k = omega arith in ap (λ m. looks.base m i) f ∙ h (suc k) i (omega (arith, x)) ∙ ap (λ m. base m i) (sym f)))

pub drawn-same : (looks : Looks) (base : ℕ → ℕ → Face) (text : List ℕ) → ((k i : ℕ) → k < length (lines_in looks.view text) → looks.base (looks.view.top + k) i ≡ base (looks.view.top + k) i)
    → drawn_lines looks text ≡ drawn_lines (with_base looks base) text
drawn-same looks base text h =
    from-same looks base (length (lines_of text)) (length (joined (take looks.view.top (lines_of text)))) looks.view.top (take looks.view.rows (drop looks.view.top (lines_of text))) h
