-- The line of an offset, and where lines begin.
use Rattle.std.proofs.Common.{◌≡◌, ℕ, ◌+◌, ◌<◌, ◌≤◌, List, length, get_or, slice_index, sym, ap, ◌∙◌, arith, inl, inr}
use Rattle.std.proofs.lemmas.Bool.{cases_lt}
use Rattle.text_model.specs.declared.coords.Coord.{Coord}
use Rattle.text_model.specs.Texts.{offset, IsPlace, lines_of, line_count, nth_line, coord_at}
use Rattle.text_model.proofs.PlaceLemmas.{start-le, start-more, start-end, length-lines, place-before_next, IsPlace-coord_at, char-at, offset-coord_at, coord_at-offset}
use Rattle.motion_keys.specs.Landmarks.{line_begin, line_of}

pub line_begin-le : (text : List ℕ) (m n : ℕ) → m ≤ n → line_begin text m ≤ line_begin text n
line_begin-le text m n h = omega (arith, start-le (lines_of text) m n h)

pub line_begin-next : (text : List ℕ) (n : ℕ) → n < line_count text → line_begin text (n + 1) ≡ line_begin text n + length (nth_line text n)
line_begin-next text n h = omega (arith, start-more (lines_of text) n h)

-- behind the last line the text ends
pub line_begin-within : (text : List ℕ) (n : ℕ) → n ≤ line_count text → line_begin text n ≤ length text
line_begin-within text n h = omega (arith, start-le (lines_of text) n (length (lines_of text)) h, start-end (lines_of text), length-lines text)

-- an offset lies on its line
pub line_of-begin : (text : List ℕ) (o : ℕ) → o < length text → line_begin text (line_of text o) ≤ o
line_of-begin text o l =
    let at : Coord = coord_at text o in
    let same : offset text at ≡ o = offset-coord_at text o (omega (arith, l)) in
    omega (arith, same)

pub line_of-end : (text : List ℕ) (o : ℕ) → o < length text → o < line_begin text (line_of text o + 1)
line_of-end text o l =
    let at : Coord = coord_at text o in
    let same : offset text at ≡ o = offset-coord_at text o (omega (arith, l)) in
    let place : IsPlace text at = IsPlace-coord_at text o l in
    omega (arith, same, place-before_next (lines_of text) at.line at.column place.on_line place.in_line)

-- and on no other
pub line_of-is : (text : List ℕ) (n o : ℕ) → o < length text → line_begin text n ≤ o → o < line_begin text (n + 1) → line_of text o ≡ n
line_of-is text n o l from to =
    elim (cases_lt (line_of text o) n) [
      | inl lt ↦ absurd (omega (arith, line_of-end text o l, from, line_begin-le text (line_of text o + 1) n (omega (arith, lt))))
      | inr ge ↦ elim (cases_lt n (line_of text o)) [
        | inl gt ↦ absurd (omega (arith, line_of-begin text o l, to, line_begin-le text (n + 1) (line_of text o) (omega (arith, gt))))
        | inr le ↦ omega (arith, ge, le)
      ]
    ]

-- the line of a place
pub line_of-place : (text : List ℕ) (at : Coord) → IsPlace text at → line_of text (offset text at) ≡ at.line
line_of-place text at h = ap (λ (c : Coord). c.line) (coord_at-offset text at h)

-- a character that was read from a line stands at its place
pub place-read : (text : List ℕ) (at : Coord) (line : List ℕ) (c : ℕ) → IsPlace text at → line ≡ nth_line text at.line → c ≡ get_or line at.column 0 → slice_index text (offset text at) ≡ c
place-read text at line c place e k = char-at text at 0 place ∙ ap (λ m. get_or m at.column 0) (sym e) ∙ sym k

pub char-read : (text : List ℕ) (n column : ℕ) (line : List ℕ) (c : ℕ) → n < line_count text → line ≡ nth_line text n → column < length line → c ≡ get_or line column 0 → slice_index text (line_begin text n + column) ≡ c
char-read text n column line c h e l k =
    let at : Coord = record { line = n; column = column } in
    let place : IsPlace text at = record { on_line = h; in_line = omega (arith, l, ap length e) } in
    let same : line_begin text n + column ≡ offset text at = omega arith in
    ap (slice_index text) same ∙ place-read text at line c place e k
