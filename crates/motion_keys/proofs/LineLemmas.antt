-- The first character of a line, from a column on, that passes a test.
use Rattle.std.proofs.Common.{◌≡◌, ℕ, ◌+◌, ◌<◌, ◌≤◌, Bool, true, false, List, length, get_or, Option, None, Some, sym, ap, ◌∙◌, arith}
use Rattle.std.specs.Prelude.{slice_index}
use Rattle.text_model.specs.declared.coords.Coord.{Coord}
use Rattle.text_model.specs.Texts.{offset, IsPlace, lines_of, nth_line}
use Rattle.text_model.proofs.PlaceLemmas.{start-more, char-at, coord_at-offset}
use Rattle.motion_keys.specs.Extremes.{least_between}
use Rattle.motion_keys.specs.Jumps.{line_end}
use Rattle.motion_keys.proofs.ExtremeLemmas.{least-here, least-later, least-none}

-- a column of a line
abbrev pub column_at : ℕ → ℕ → Coord
column_at n column = record { line = n; column = column }

-- the offset behind a line
abbrev pub behind_line : List ℕ → ℕ → ℕ
behind_line text n = offset text (record { line = n + 1; column = 0 })

-- what a line from a column on has that passes a test
abbrev pub from_column : (ℕ → Bool) → List ℕ → ℕ → ℕ → Option ℕ
from_column test text n column = least_between (λ o. test (slice_index text o)) (offset text (column_at n column)) (behind_line text n)

pub line_end-place : (text : List ℕ) (at : Coord) → IsPlace text at → line_end text (offset text at) ≡ behind_line text at.line
line_end-place text at h = ap (λ (c : Coord). behind_line text c.line) (coord_at-offset text at h)

behind_line-is : (text : List ℕ) (n : ℕ) → n < length (lines_of text) → behind_line text n ≡ offset text (column_at n (length (nth_line text n)))
behind_line-is text n h = omega (arith, start-more (lines_of text) n h)

char-read : (text : List ℕ) (at : Coord) (line : List ℕ) (c : ℕ) → IsPlace text at → line ≡ nth_line text at.line → c ≡ get_or line at.column 0 → slice_index text (offset text at) ≡ c
char-read text at line c h e k =
    char-at text at 0 h ∙ ap (λ l. get_or l at.column 0) (sym e) ∙ sym k

-- a character passes
pub line-found : (test : ℕ → Bool) (text : List ℕ) (n column : ℕ) (line : List ℕ) (c : ℕ) (whole : Option ℕ) → n < length (lines_of text) → line ≡ nth_line text n → column < length line → c ≡ get_or line column 0 → test c ≡ true
    → whole ≡ from_column test text n column → IsPlace text (column_at n column) × (whole ≡ Some (offset text (column_at n column)))
line-found test text n column line c whole h e l k t r =
    let place : IsPlace text (column_at n column) = record { on_line = h; in_line = omega (arith, ap length e) } in
    (place, r ∙ least-here (λ o. test (slice_index text o)) (offset text (column_at n column)) (behind_line text n) (omega (arith, behind_line-is text n h, ap length e)) (ap test (char-read text (column_at n column) line c place e k) ∙ t))

-- it doesn't
pub line-passed : (test : ℕ → Bool) (text : List ℕ) (n column : ℕ) (line : List ℕ) (c : ℕ) (whole : Option ℕ) → n < length (lines_of text) → line ≡ nth_line text n → column < length line → c ≡ get_or line column 0 → test c ≡ false
    → whole ≡ from_column test text n column → whole ≡ from_column test text n (column + 1)
line-passed test text n column line c whole h e l k t r =
    let place : IsPlace text (column_at n column) = record { on_line = h; in_line = omega (arith, ap length e) } in
    let next : offset text (column_at n column) + 1 ≡ offset text (column_at n (column + 1)) = omega arith in
    r ∙ least-later (λ o. test (slice_index text o)) (offset text (column_at n column)) (behind_line text n) (omega (arith, behind_line-is text n h, ap length e)) (ap test (char-read text (column_at n column) line c place e k) ∙ t) ∙ ap (λ o. least_between (λ p. test (slice_index text p)) o (behind_line text n)) next

-- the line is over
pub line-over : (test : ℕ → Bool) (text : List ℕ) (n column : ℕ) (line : List ℕ) (whole : Option ℕ) → n < length (lines_of text) → line ≡ nth_line text n → length line ≤ column
    → whole ≡ from_column test text n column → whole ≡ None
line-over test text n column line whole h e l r =
    r ∙ least-none (λ o. test (slice_index text o)) (offset text (column_at n column)) (behind_line text n) (omega (arith, behind_line-is text n h, ap length e))
