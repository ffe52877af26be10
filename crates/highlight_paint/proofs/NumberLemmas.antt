-- Number cells one behind the other, up to a last column.
use Rattle.std.proofs.Common.{◌≡◌, ℕ, ◌+◌, ◌^◌, ◌<◌, ◌≤◌, min, true, false, List, [], ◌∷◌, ◌++◌, length, drop, get_or, Bool, inl, inr, refl, sym, ap, ap₂, ◌∙◌, arith, ◌||◌, append_assoc, append-nil}
use Rattle.std.specs.Prelude.{decimal}
use Rattle.std.proofs.lemmas.Bool.{cases_lt}
use Rattle.std.proofs.lemmas.List.{drop_more, drop_all}
use Rattle.std.proofs.lemmas.List.Folds.{list_any-append}
use Rattle.kak_text.specs.Cells.{cells_of, column_behind}
use Rattle.scope_options.specs.declared.scope.Scope.{Scope}
use Rattle.highlight_paint.specs.Painters.{Paints, Fills, Matches, Numbers, MarksLine, MarksColumn, ShowsWhitespaces, HoldsOthers, Highlighter, is_of_scope, painting_at}
use Rattle.highlight_paint.specs.Numbers.{painter_behind, numbers_behind, Numbering, painter_numbers, numbers_of, draws_signs, has_signs}
use Rattle.highlight_paint.proofs.RowLemmas.{painting-not, painting-more}

-- columns don't fall
behind-ge : (tabstop column : ℕ) (cs : List ℕ) → column ≤ column_behind tabstop column cs
behind-ge tabstop column [] = omega arith
behind-ge tabstop column (c ∷ cs) = omega (arith, behind-ge tabstop (column + cells_of c column tabstop) cs)

painter-ge : (tabstop lines column : ℕ) (p : Paints) → column ≤ painter_behind tabstop lines column p
painter-ge tabstop lines column (Numbers marked separator) = omega (arith, behind-ge tabstop (column + length (decimal lines)) separator)
painter-ge tabstop lines column (Fills text) = omega arith
painter-ge tabstop lines column (Matches source groups) = omega arith
painter-ge tabstop lines column (MarksLine n text) = omega arith
painter-ge tabstop lines column (MarksColumn n text) = omega arith
painter-ge tabstop lines column ShowsWhitespaces = omega arith
painter-ge tabstop lines column HoldsOthers = omega arith

numbers-ge : (tabstop lines column : ℕ) (ps : List Paints) → column ≤ numbers_behind tabstop lines column ps
numbers-ge tabstop lines column [] = omega arith
numbers-ge tabstop lines column (p ∷ ps) = omega (arith, painter-ge tabstop lines column p, numbers-ge tabstop lines (painter_behind tabstop lines column p) ps)

-- one character further
pub behind-more : (tabstop at n i : ℕ) (cs : List ℕ) → i < length cs → n ≡ at + cells_of (get_or cs i 0) at tabstop → column_behind tabstop n (drop (i + 1) cs) ≡ column_behind tabstop at (drop i cs)
behind-more tabstop at n i cs inside is =
    ap (λ k. column_behind tabstop k (drop (i + 1) cs)) is ∙ sym (ap (column_behind tabstop at) (drop_more cs i 0 inside))

-- at the last column, or behind it
pub behind-last : (tabstop at i : ℕ) (cs : List ℕ) → 2 ^ 31 ≤ at → min (column_behind tabstop at (drop i cs)) (2 ^ 31) ≡ 2 ^ 31
behind-last tabstop at i cs far = omega (arith, far, behind-ge tabstop at (drop i cs))

pub behind-all : (tabstop at i : ℕ) (cs : List ℕ) → length cs ≤ i → column_behind tabstop at (drop i cs) ≡ at
behind-all tabstop at i cs over = ap (column_behind tabstop at) (drop_all i cs over)

-- the last column stays the last one
numbers-last : (tabstop lines column n : ℕ) (ps : List Paints) → n ≡ min column (2 ^ 31) → min (numbers_behind tabstop lines n ps) (2 ^ 31) ≡ min (numbers_behind tabstop lines column ps) (2 ^ 31)
numbers-last tabstop lines column n ps is = elim (cases_lt column (2 ^ 31)) [
  | inl less ↦ let e : n ≡ column = omega (arith, is, less) in ap (λ k. min (numbers_behind tabstop lines k ps) (2 ^ 31)) e
  | inr ge ↦ omega (arith, is, ge, numbers-ge tabstop lines n ps, numbers-ge tabstop lines column ps)
]

numbers-append : (tabstop lines column : ℕ) (p q : List Paints) → numbers_behind tabstop lines column (p ++ q) ≡ numbers_behind tabstop lines (numbers_behind tabstop lines column p) q
numbers-append tabstop lines column [] q = refl
numbers-append tabstop lines column (x ∷ p) q = numbers-append tabstop lines (painter_behind tabstop lines column x) p q

module _ (tabstop lines : ℕ) (scope : Scope) (rows : List Highlighter) (i at : ℕ) (row : Highlighter) where
  pub numbers-not : i < length rows → row ≡ get_or rows i row → is_of_scope scope row ≡ false → numbers_behind tabstop lines at (painting_at scope (drop (i + 1) rows)) ≡ numbers_behind tabstop lines at (painting_at scope (drop i rows))
  numbers-not inside is fails = ap (numbers_behind tabstop lines at) (sym (painting-not scope rows i row inside is fails))

  pub numbers-more : (n : ℕ) → i < length rows → row ≡ get_or rows i row → is_of_scope scope row ≡ true → n ≡ min (painter_behind tabstop lines at row.paints) (2 ^ 31) →
      min (numbers_behind tabstop lines n (painting_at scope (drop (i + 1) rows))) (2 ^ 31) ≡ min (numbers_behind tabstop lines at (painting_at scope (drop i rows))) (2 ^ 31)
  numbers-more n inside is holds next =
      numbers-last tabstop lines (painter_behind tabstop lines at row.paints) n (painting_at scope (drop (i + 1) rows)) next
      ∙ ap (λ ps. min (numbers_behind tabstop lines at ps) (2 ^ 31)) (sym (painting-more scope rows i row inside is holds))

pub numbers-none : (tabstop lines : ℕ) (scope : Scope) (rows : List Highlighter) (i at : ℕ) → length rows ≤ i → numbers_behind tabstop lines at (painting_at scope (drop i rows)) ≡ at
numbers-none tabstop lines scope rows i at over = ap (λ rs. numbers_behind tabstop lines at (painting_at scope rs)) (drop_all i rows over)

-- one scope behind another
pub numbers-all : (tabstop lines a b c : ℕ) (p q r : List Paints) → a ≡ min (numbers_behind tabstop lines 0 p) (2 ^ 31) → b ≡ min (numbers_behind tabstop lines a q) (2 ^ 31) → c ≡ min (numbers_behind tabstop lines b r) (2 ^ 31) →
    c ≡ min (numbers_behind tabstop lines 0 (p ++ q ++ r)) (2 ^ 31)
numbers-all tabstop lines a b c p q r x y z =
    let two : b ≡ min (numbers_behind tabstop lines 0 (p ++ q)) (2 ^ 31) =
    y ∙ numbers-last tabstop lines (numbers_behind tabstop lines 0 p) a q x ∙ ap (λ n. min n (2 ^ 31)) (sym (numbers-append tabstop lines 0 p q)) in
    z ∙ numbers-last tabstop lines (numbers_behind tabstop lines 0 (p ++ q)) b r two
    ∙ ap (λ n. min n (2 ^ 31)) (sym (numbers-append tabstop lines 0 (p ++ q) r))

-- the numbers before lines, one highlighter behind the other
numbers_of-append : (p q : List Paints) → numbers_of (p ++ q) ≡ numbers_of p ++ numbers_of q
numbers_of-append [] q = refl
numbers_of-append (x ∷ p) q = ap (λ t. painter_numbers x ++ t) (numbers_of-append p q) ∙ sym (append_assoc (painter_numbers x) (numbers_of p) (numbers_of q))

module _ (scope : Scope) (rows : List Highlighter) (i : ℕ) (row : Highlighter) where
  pub numbering-not : (old now : List Numbering) → i < length rows → row ≡ get_or rows i row → is_of_scope scope row ≡ false
      → now ++ numbers_of (painting_at scope (drop i rows)) ≡ old ++ numbers_of (painting_at scope rows) → now ++ numbers_of (painting_at scope (drop (i + 1) rows)) ≡ old ++ numbers_of (painting_at scope rows)
  numbering-not old now inside is fails e = ap (λ ps. now ++ numbers_of ps) (sym (painting-not scope rows i row inside is fails)) ∙ e

  pub numbering-more : (old now new : List Numbering) → i < length rows → row ≡ get_or rows i row → is_of_scope scope row ≡ true → new ≡ now ++ painter_numbers row.paints
      → now ++ numbers_of (painting_at scope (drop i rows)) ≡ old ++ numbers_of (painting_at scope rows) → new ++ numbers_of (painting_at scope (drop (i + 1) rows)) ≡ old ++ numbers_of (painting_at scope rows)
  numbering-more old now new inside is holds next e =
      ap (λ t. t ++ numbers_of (painting_at scope (drop (i + 1) rows))) next
      ∙ append_assoc now (painter_numbers row.paints) (numbers_of (painting_at scope (drop (i + 1) rows)))
      ∙ ap (λ ps. now ++ numbers_of ps) (sym (painting-more scope rows i row inside is holds)) ∙ e

  pub signs-not : i < length rows → row ≡ get_or rows i row → is_of_scope scope row ≡ false → has_signs (painting_at scope (drop (i + 1) rows)) ≡ has_signs (painting_at scope (drop i rows))
  signs-not inside is fails = ap has_signs (sym (painting-not scope rows i row inside is fails))

  pub signs-more : i < length rows → row ≡ get_or rows i row → is_of_scope scope row ≡ true → draws_signs row.paints ≡ false → has_signs (painting_at scope (drop (i + 1) rows)) ≡ has_signs (painting_at scope (drop i rows))
  signs-more inside is holds none =
      sym (ap has_signs (painting-more scope rows i row inside is holds) ∙ ap (λ t. t || has_signs (painting_at scope (drop (i + 1) rows))) none)

  pub signs-here : i < length rows → row ≡ get_or rows i row → is_of_scope scope row ≡ true → draws_signs row.paints ≡ true → has_signs (painting_at scope (drop i rows)) ≡ true
  signs-here inside is holds some =
      ap has_signs (painting-more scope rows i row inside is holds) ∙ ap (λ t. t || has_signs (painting_at scope (drop (i + 1) rows))) some

pub numbering-none : (scope : Scope) (rows : List Highlighter) (i : ℕ) (old now : List Numbering) → length rows ≤ i
    → now ++ numbers_of (painting_at scope (drop i rows)) ≡ old ++ numbers_of (painting_at scope rows) → now ≡ old ++ numbers_of (painting_at scope rows)
numbering-none scope rows i old now over e =
    sym (append-nil now) ∙ ap (λ rs. now ++ numbers_of (painting_at scope rs)) (sym (drop_all i rows over)) ∙ e

pub signs-none : (scope : Scope) (rows : List Highlighter) (i : ℕ) → length rows ≤ i → has_signs (painting_at scope (drop i rows)) ≡ false
signs-none scope rows i over = ap (λ rs. has_signs (painting_at scope rs)) (drop_all i rows over)

-- one scope behind another
pub numbering-all : (none a b c : List Numbering) (p q r : List Paints) → none ≡ [] → a ≡ none ++ numbers_of p → b ≡ a ++ numbers_of q → c ≡ b ++ numbers_of r → c ≡ numbers_of (p ++ q ++ r)
numbering-all none a b c p q r e x y z =
    z ∙ ap (λ t. t ++ numbers_of r) (y ∙ ap (λ t. t ++ numbers_of q) (x ∙ ap (λ t. t ++ numbers_of p) e) ∙ sym (numbers_of-append p q))
    ∙ sym (numbers_of-append (p ++ q) r)

signs-parts : (p q r : List Paints) → has_signs (p ++ q ++ r) ≡ ((has_signs p || has_signs q) || has_signs r)
signs-parts p q r = list_any-append draws_signs (p ++ q) r ∙ ap (λ t. t || has_signs r) (list_any-append draws_signs p q)

pub signs-first : (p q r : List Paints) → has_signs p ≡ true → true ≡ has_signs (p ++ q ++ r)
signs-first p q r x = sym (signs-parts p q r ∙ ap (λ t. (t || has_signs q) || has_signs r) x)

pub signs-second : (p q r : List Paints) → has_signs p ≡ false → has_signs q ≡ true → true ≡ has_signs (p ++ q ++ r)
signs-second p q r x y = sym (signs-parts p q r ∙ ap₂ (λ s t. (s || t) || has_signs r) x y)

pub signs-third : (a : Bool) (p q r : List Paints) → has_signs p ≡ false → has_signs q ≡ false → a ≡ has_signs r → a ≡ has_signs (p ++ q ++ r)
signs-third a p q r x y z = z ∙ sym (signs-parts p q r ∙ ap₂ (λ s t. (s || t) || has_signs r) x y)
