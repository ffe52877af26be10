-- Blanks at the start of lines.
use Rattle.std.proofs.Common.{◌≡◌, ℕ, zero, suc, ◌+◌, ◌-◌, ◌%◌, ◌<◌, ◌≤◌, Bool, true, false, cond, ◌&&◌, eqb, leb, List, [], ◌∷◌, length, get_or, take, drop, le-leb, leb-true, refl, sym, ap, ap₂, subst, ◌∙◌, arith}
use Rattle.std.proofs.lemmas.Bool.{lt-leb}
use Rattle.std.proofs.lemmas.List.{drop_more}
use Rattle.text_model.specs.Texts.{IsLine}
use Rattle.kak_text.specs.Cells.{cells_of, column_behind, width_of}
use Rattle.edit_ops.specs.Blanks.{is_blank, blanks, blanks_within, AreBlanksWithin}

cond-le : (b : Bool) (n k : ℕ) → n ≤ k → cond b n 0 ≤ k
cond-le true n k h = h
cond-le false n k h = omega arith

-- blanks end before a character that is none
blanks-le : (line : List ℕ) (k : ℕ) → k < length line → is_blank (get_or line k 0) ≡ false → blanks line ≤ k
blanks-le [] k h e = absurd (omega arith)
blanks-le (c ∷ cs) zero h e = subst (λ b. cond b (1 + blanks cs) 0 ≤ 0) (sym e) (omega arith)
blanks-le (c ∷ cs) (suc k) h e = cond-le (is_blank c) (1 + blanks cs) (suc k) (omega (arith, blanks-le cs k (omega arith) e))

within-le : (tabstop most column : ℕ) (line : List ℕ) (k : ℕ) → k < length line → is_blank (get_or line k 0) ≡ false → blanks_within tabstop most column line ≤ k
within-le tabstop most column [] k h e = absurd (omega arith)
within-le tabstop most column (c ∷ cs) zero h e =
    subst (λ b. cond (b && leb (column + cells_of c column tabstop) most) (suc (blanks_within tabstop most (column + cells_of c column tabstop) cs)) 0 ≤ 0) (sym e) (omega arith)
within-le tabstop most column (c ∷ cs) (suc k) h e =
    let next : ℕ = column + cells_of c column tabstop in
    cond-le (is_blank c && leb next most) (suc (blanks_within tabstop most next cs)) (suc k) (omega (arith, within-le tabstop most next cs k (omega arith) e))

newline-is_none : (c : ℕ) → c ≡ 10 → is_blank c ≡ false
newline-is_none c e = ap is_blank e

-- so each line has its newline behind them
pub blanks-in_line : (line : List ℕ) → IsLine line → blanks line < length line
blanks-in_line line l = omega (arith, l.some, blanks-le line (length line - 1) (omega (arith, l.some)) (newline-is_none (get_or line (length line - 1) 0) l.ended))

pub within-in_line : (tabstop most column : ℕ) (line : List ℕ) → IsLine line → blanks_within tabstop most column line < length line
within-in_line tabstop most column line l =
    omega (arith, l.some, within-le tabstop most column line (length line - 1) (omega (arith, l.some)) (newline-is_none (get_or line (length line - 1) 0) l.ended))

-- one character more, or none
pub blanks-on : (line : List ℕ) (i c : ℕ) → i < length line → c ≡ get_or line i 0 → is_blank c ≡ true → i + blanks (drop i line) ≡ i + 1 + blanks (drop (i + 1) line)
blanks-on line i c h at e =
    let next : blanks (drop i line) ≡ 1 + blanks (drop (i + 1) line) = ap blanks (drop_more line i 0 h) ∙ ap (λ b. cond b (1 + blanks (drop (i + 1) line)) 0) (ap is_blank (sym at) ∙ e) in
    omega (arith, next)

pub blanks-off : (line : List ℕ) (i c : ℕ) → i < length line → c ≡ get_or line i 0 → is_blank c ≡ false → i + blanks (drop i line) ≡ i
blanks-off line i c h at e =
    let next : blanks (drop i line) ≡ 0 = ap blanks (drop_more line i 0 h) ∙ ap (λ b. cond b (1 + blanks (drop (i + 1) line)) 0) (ap is_blank (sym at) ∙ e) in
    omega (arith, next)

within-next : (tabstop most column : ℕ) (line : List ℕ) (i c : ℕ) (b d : Bool) → i < length line → c ≡ get_or line i 0 → is_blank c ≡ b → leb (column + cells_of c column tabstop) most ≡ d
    → blanks_within tabstop most column (drop i line) ≡ cond (b && d) (suc (blanks_within tabstop most (column + cells_of c column tabstop) (drop (i + 1) line))) 0
within-next tabstop most column line i c b d h at e f =
    ap (blanks_within tabstop most column) (drop_more line i 0 h ∙ ap (λ x. x ∷ drop (i + 1) line) (sym at))
    ∙ ap₂ (λ x y. cond (x && y) (suc (blanks_within tabstop most (column + cells_of c column tabstop) (drop (i + 1) line))) 0) e f

pub within-on : (tabstop most column next : ℕ) (line : List ℕ) (i c : ℕ) → i < length line → c ≡ get_or line i 0 → is_blank c ≡ true → next ≡ column + cells_of c column tabstop → next ≤ most
    → i + blanks_within tabstop most column (drop i line) ≡ i + 1 + blanks_within tabstop most next (drop (i + 1) line)
within-on tabstop most column next line i c h at e n f =
    let one : blanks_within tabstop most column (drop i line) ≡ suc (blanks_within tabstop most (column + cells_of c column tabstop) (drop (i + 1) line)) =
    within-next tabstop most column line i c true true h at e (le-leb (column + cells_of c column tabstop) most (omega (arith, n, f))) in
    omega (arith, one, ap (λ x. blanks_within tabstop most x (drop (i + 1) line)) n)

pub within-no_blank : (tabstop most column : ℕ) (line : List ℕ) (i c : ℕ) → i < length line → c ≡ get_or line i 0 → is_blank c ≡ false → i + blanks_within tabstop most column (drop i line) ≡ i
within-no_blank tabstop most column line i c h at e =
    let none : blanks_within tabstop most column (drop i line) ≡ 0 = within-next tabstop most column line i c false (leb (column + cells_of c column tabstop) most) h at e refl in
    omega (arith, none)

pub within-over : (tabstop most column next : ℕ) (line : List ℕ) (i c : ℕ) → i < length line → c ≡ get_or line i 0 → is_blank c ≡ true → next ≡ column + cells_of c column tabstop → most < next
    → i + blanks_within tabstop most column (drop i line) ≡ i
within-over tabstop most column next line i c h at e n f =
    let none : blanks_within tabstop most column (drop i line) ≡ 0 = within-next tabstop most column line i c true false h at e (lt-leb (column + cells_of c column tabstop) most (omega (arith, n, f))) in
    omega (arith, none)

-- the cells of a character that is no tab are the same at each column
pub cells-anywhere : (c column tabstop : ℕ) → eqb c 9 ≡ false → cells_of c 0 1 ≡ cells_of c column tabstop
cells-anywhere c column tabstop e = ap (λ b. cond b (1 - 0 % 1) (width_of c)) e ∙ sym (ap (λ b. cond b (tabstop - column % tabstop) (width_of c)) e)

-- ---- those within a column are all such

behind-le : (tabstop column : ℕ) (xs : List ℕ) → column ≤ column_behind tabstop column xs
behind-le tabstop column [] = omega arith
behind-le tabstop column (x ∷ xs) = omega (arith, behind-le tabstop (column + cells_of x column tabstop) xs)

one-such : (tabstop most column next c : ℕ) (cs : List ℕ) (b d : Bool) → next ≡ column + cells_of c column tabstop → b ≡ is_blank c → d ≡ leb next most → column ≤ most
    → (next ≤ most → AreBlanksWithin tabstop most next cs (blanks_within tabstop most next cs)) → AreBlanksWithin tabstop most column (c ∷ cs) (cond (b && d) (suc (blanks_within tabstop most next cs)) 0)
one-such tabstop most column next c cs true true n e f h r =
    let rest : AreBlanksWithin tabstop most next cs (blanks_within tabstop most next cs) = r (leb-true next most (sym f)) in
    record { inside = omega (arith, rest.inside); blank = (sym e, rest.blank); fit = subst (λ x. column_behind tabstop x (take (blanks_within tabstop most next cs) cs) ≤ most) n rest.fit }
one-such tabstop most column next c cs true false n e f h r = record { inside = omega arith; blank = tt; fit = h }
one-such tabstop most column next c cs false d n e f h r = record { inside = omega arith; blank = tt; fit = h }

pub blanks-such : (tabstop most column : ℕ) (line : List ℕ) → column ≤ most → AreBlanksWithin tabstop most column line (blanks_within tabstop most column line)
blanks-such tabstop most column [] h = record { inside = omega arith; blank = tt; fit = h }
blanks-such tabstop most column (c ∷ cs) h =
    let next : ℕ = column + cells_of c column tabstop in
    one-such tabstop most column next c cs (is_blank c) (leb next most) refl refl refl h (λ k. blanks-such tabstop most next cs k)

pub blanks-no_more : (tabstop most column : ℕ) (line : List ℕ) (n : ℕ) → AreBlanksWithin tabstop most column line n → n ≤ blanks_within tabstop most column line
blanks-no_more tabstop most column line zero h = omega arith
blanks-no_more tabstop most column [] (suc n) h = absurd (omega (arith, h.inside))
blanks-no_more tabstop most column (c ∷ cs) (suc n) h =
    let next : ℕ = column + cells_of c column tabstop in
    let rest : n ≤ blanks_within tabstop most next cs = blanks-no_more tabstop most next cs n (record { inside = omega (arith, h.inside); blank = h.blank.1; fit = h.fit }) in
    let test : is_blank c && leb next most ≡ true = ap₂ (λ b d. b && d) h.blank.0 (le-leb next most (omega (arith, h.fit, behind-le tabstop next (take n cs)))) in
    subst (λ b. suc n ≤ cond b (suc (blanks_within tabstop most next cs)) 0) (sym test) (omega (arith, rest))
