-- Lemmas on steps from a place to its neighbours.
use Rattle.std.proofs.Common.{◌≡◌, ℕ, ◌+◌, ◌<◌, ◌≤◌, List, [], length, get_or, take, arith, ap}
use Rattle.text_model.specs.Texts.{IsStored, IsPlace, lines_of, joined, offset}
use Rattle.text_model.proofs.PlaceLemmas.{nth_line_is_line, offset-next_line, offset-below, start-more, start-end, length-lines, start-le}

-- the begin of the next line is a place
pub next_line_place : (text : List ℕ) (n : ℕ) → IsStored text → n < length (lines_of text) → IsPlace text (record { line = n; column = 0 })
next_line_place text n h lt = record { on_line = lt; in_line = (nth_line_is_line text n h.is_text lt).some }

-- behind the last character of the last line the text ends
pub offset-last : (text : List ℕ) (n c : ℕ) → n < length (lines_of text) → c + 1 ≡ length (get_or (lines_of text) n []) → n + 1 ≡ length (lines_of text) → offset text (record { line = n; column = c }) + 1 ≡ length text
offset-last text n c h e l =
    let at : length (joined (take (n + 1) (lines_of text))) ≡ length (joined (take (length (lines_of text)) (lines_of text))) = ap (λ m. length (joined (take m (lines_of text)))) l in
    omega (arith, start-more (lines_of text) n h, start-end (lines_of text), length-lines text)

-- the newline of the line before stands before the begin of a line
pub offset-line_before : (text : List ℕ) (m n c : ℕ) → m + 1 ≡ n → m < length (lines_of text) → c + 1 ≡ length (get_or (lines_of text) m []) → offset text (record { line = m; column = c }) + 1 ≡ offset text (record { line = n; column = 0 })
offset-line_before text m n c e h l =
    let at : length (joined (take (m + 1) (lines_of text))) ≡ length (joined (take n (lines_of text))) = ap (λ k. length (joined (take k (lines_of text)))) e in
    omega (arith, start-more (lines_of text) m h)

-- lines below the first begin behind the first character
pub offset-below_first : (text : List ℕ) (n c : ℕ) → IsStored text → 0 < n → n ≤ length (lines_of text) → 0 < offset text (record { line = n; column = c })
offset-below_first text n c h p l =
    let some : 0 < length (lines_of text) = omega arith in
    omega (arith, start-le (lines_of text) 1 n (omega arith), start-more (lines_of text) 0 some, (nth_line_is_line text 0 h.is_text some).some)

-- a column of a line that is there is a place
pub place_on_line : (text : List ℕ) (n c : ℕ) → n < length (lines_of text) → c < length (get_or (lines_of text) n []) → IsPlace text (record { line = n; column = c })
place_on_line text n c h k = record { on_line = h; in_line = k }

-- and so many characters behind the line's begin
pub offset_on_line : (text : List ℕ) (n c : ℕ) → offset text (record { line = n; column = c }) ≡ offset text (record { line = n; column = 0 }) + c
offset_on_line text n c = omega arith

-- steps and lines, for callers
pub ruleset steps = (next_line_place, offset-last, offset-line_before, offset-below_first, offset-next_line, offset-below, place_on_line)
