-- Lemmas on display columns.
use Rattle.std.proofs.Common.{◌≡◌, ℕ, ◌+◌, ◌<◌, ◌≤◌, leb, List, [], ◌∷◌, ◌++◌, length, take, drop, get_or, refl, sym, ap, ◌∙◌, arith, false, Some, None, lt-ltb}
use Rattle.std.specs.Prelude.{if◌then◌else◌, unwrap_or}
use Rattle.std.proofs.lemmas.List.{take_more, take-append-drop, take-take}
use Rattle.text_model.proofs.PlaceLemmas.{leb_true}
use Rattle.unicode_width.specs.Width.{char_width, alone}
use Rattle.kak_text.specs.Cells.{cells_of, column_behind, display_column, width_of}

-- a printable character of ASCII has one cell
pub printable-width : (c : ℕ) → 0x20 ≤ c → c < 0x7F → width_of c ≡ 1
unfolding char_width
printable-width c h k =
    ap (λ t. unwrap_or (if t then (if leb 0x20 c then Some 1 else None) else (if leb 0xA0 c then Some (alone false c).0 else None)) 1) (lt-ltb c 0x7F k)
    ∙ ap (λ t. unwrap_or (if t then Some 1 else None) 1) (leb_true 0x20 c h)

column_behind-append : (tabstop column : ℕ) (xs ys : List ℕ) → column_behind tabstop column (xs ++ ys) ≡ column_behind tabstop (column_behind tabstop column xs) ys
column_behind-append tabstop column [] ys = refl
column_behind-append tabstop column (x ∷ xs) ys = column_behind-append tabstop (column + cells_of x column tabstop) xs ys

column_behind-le : (tabstop column : ℕ) (xs : List ℕ) → column ≤ column_behind tabstop column xs
column_behind-le tabstop column [] = omega arith
column_behind-le tabstop column (x ∷ xs) = le_further column (cells_of x column tabstop) _ (column_behind-le tabstop (column + cells_of x column tabstop) xs)
  where
    le_further : (a b c : ℕ) → a + b ≤ c → a ≤ c
    le_further a b c h = omega arith

-- the next place lies behind the character's cells
pub display_column-more : (line : List ℕ) (n tabstop : ℕ) → n < length line
    → display_column line (n + 1) tabstop ≡ display_column line n tabstop + cells_of (get_or line n 0) (display_column line n tabstop) tabstop
display_column-more line n tabstop h = ap (column_behind tabstop 0) (take_more line n 0 h) ∙ column_behind-append tabstop 0 (take n line) (get_or line n 0 ∷ [])

-- later places don't lie before
pub display_column-le : (line : List ℕ) (m n tabstop : ℕ) → m ≤ n → display_column line m tabstop ≤ display_column line n tabstop
display_column-le line m n tabstop h =
    let e : take m line ++ drop m (take n line) ≡ take n line = ap (λ t. t ++ drop m (take n line)) (sym (take-take m n line h)) ∙ take-append-drop m (take n line) in
    let f : display_column line n tabstop ≡ column_behind tabstop (display_column line m tabstop) (drop m (take n line)) = ap (column_behind tabstop 0) (sym e) ∙ column_behind-append tabstop 0 (take m line) (drop m (take n line)) in
    rw f (column_behind-le tabstop (display_column line m tabstop) (drop m (take n line)))
