-- Where lines begin and end, by lines and columns.
use Rattle.std.proofs.Common.{◌≡◌, ℕ, zero, suc, ◌+◌, ◌-◌, ◌<◌, ◌≤◌, true, false, ◌||◌, List, [], length, get_or, refl, sym, ap, ap₂, subst, ◌∙◌, arith, eq-eqb, ne_eqb}
use Rattle.text_model.specs.declared.coords.Coord.{Coord}
use Rattle.text_model.specs.Texts.{IsText, IsPlace, offset, lines_of}
use Rattle.text_model.proofs.PlaceLemmas.{char-at, nth_line_is_line, start-more}
use Rattle.motion_keys.specs.Landmarks.{line_begin}
use Rattle.list_keys.specs.Cuts.{ends_line, starts_line}

-- a column of a line
abbrev pub at_column : ℕ → ℕ → Coord
at_column n column = record { line = n; column = column }

abbrev pub line_size : List ℕ → ℕ → ℕ
line_size text n = length (get_or (lines_of text) n [])

pub next_start : (text : List ℕ) (n : ℕ) → n < length (lines_of text) → line_begin text (n + 1) ≡ line_begin text n + line_size text n
next_start text n h = omega (arith, start-more (lines_of text) n h)

-- an offset of a line is one of its columns
pub record IsOn (text : List ℕ) (n o : ℕ) : Type 0 where
  pub place : IsPlace text (at_column n (o - line_begin text n))
  pub same : offset text (at_column n (o - line_begin text n)) ≡ o

pub on_line : (text : List ℕ) (n o : ℕ) → n < length (lines_of text) → line_begin text n ≤ o → o < line_begin text (n + 1) → IsOn text n o
on_line text n o h l k = record { place = record { on_line = h; in_line = omega (arith, next_start text n h) }; same = omega arith }

-- the last character of a line is a newline, and no other is
pub newline_last : (text : List ℕ) (at : Coord) → IsText text → IsPlace text at → at.column + 1 ≡ line_size text at.line → ends_line text (offset text at) ≡ true
newline_last text at t p e =
    let last : at.column ≡ line_size text at.line - 1 = omega arith in
    eq-eqb (get_or text (offset text at) 0) 10 (char-at text at 0 p ∙ ap (λ c. get_or (get_or (lines_of text) at.line []) c 0) last ∙ (nth_line_is_line text at.line t p.on_line).ended)

pub newline_not : (text : List ℕ) (at : Coord) → IsText text → IsPlace text at → at.column + 1 < line_size text at.line → ends_line text (offset text at) ≡ false
newline_not text at t p h =
    ne_eqb (get_or text (offset text at) 0) 10 (λ e. (nth_line_is_line text at.line t p.on_line).only at.column h (sym (char-at text at 0 p) ∙ e))

-- so it is by offsets
pub inner_ends_not : (text : List ℕ) (n o : ℕ) → IsText text → n < length (lines_of text) → line_begin text n ≤ o → o + 1 < line_begin text (n + 1) → ends_line text o ≡ false
inner_ends_not text n o t h l k =
    let on : IsOn text n o = on_line text n o h l (omega arith) in
    subst (λ i. ends_line text i ≡ false) on.same (newline_not text (at_column n (o - line_begin text n)) t on.place (omega (arith, next_start text n h)))

pub last_ends : (text : List ℕ) (n o : ℕ) → IsText text → n < length (lines_of text) → o + 1 ≡ line_begin text (n + 1) → ends_line text o ≡ true
last_ends text n o t h e =
    let some : 0 < line_size text n = (nth_line_is_line text n t h).some in
    let on : IsOn text n o = on_line text n o h (omega (arith, next_start text n h, some)) (omega arith) in
    subst (λ i. ends_line text i ≡ true) on.same (newline_last text (at_column n (o - line_begin text n)) t on.place (omega (arith, next_start text n h, some)))

-- a line begins at its start, and at no other of its places
behind_zero : (text : List ℕ) (o p : ℕ) → o ≡ p + 1 → starts_line text o ≡ ends_line text p
behind_zero text o p e =
    let before : o - 1 ≡ p = omega arith in
    ap₂ (λ a b. a || b) (ne_eqb o 0 (λ z. absurd (omega (arith, z, e)))) (ap (ends_line text) before)

pub start_starts : (text : List ℕ) (n : ℕ) → IsText text → n < length (lines_of text) → starts_line text (line_begin text n) ≡ true
start_starts text zero t h = refl
start_starts text (suc m) t h =
    let some : 0 < line_size text m = (nth_line_is_line text m t (omega arith)).some in
    let s : suc m ≡ m + 1 = omega arith in
    let same : line_begin text (suc m) ≡ line_begin text (m + 1) = ap (line_begin text) s in
    behind_zero text (line_begin text (suc m)) (line_begin text (m + 1) - 1) (omega (arith, next_start text m (omega arith), some, same)) ∙ last_ends text m (line_begin text (m + 1) - 1) t (omega arith) (omega (arith, next_start text m (omega arith), some))

pub inner_starts_not : (text : List ℕ) (n o : ℕ) → IsText text → n < length (lines_of text) → line_begin text n < o → o < line_begin text (n + 1) → starts_line text o ≡ false
inner_starts_not text n o t h l k =
    behind_zero text o (o - 1) (omega arith) ∙ inner_ends_not text n (o - 1) t h (omega arith) (omega arith)
