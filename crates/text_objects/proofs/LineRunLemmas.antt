-- Runs of lines, and the objects that they are.
use Rattle.std.proofs.Common.{◌≡◌, ℕ, ◌+◌, ◌-◌, ◌<◌, ◌≤◌, true, cond, List, length, Option, None, Some, sym, ap, subst, ◌∙◌, arith}
use Rattle.text_model.specs.declared.coords.Coord.{Coord}
use Rattle.text_model.specs.Texts.{offset, IsStored, IsPlace, line_count, nth_line}
use Rattle.line_buffer.proofs.StepLemmas.{next_line_place, offset-line_before}
use Rattle.selection_set.specs.declared.sel.Pair.{Pair}
use Rattle.motion_keys.specs.Landmarks.{line_begin}
use Rattle.motion_keys.specs.Words.{ends, EndsAre}
use Rattle.text_objects.specs.Runs.{run_begin, run_end}
use Rattle.text_objects.specs.LineObjects.{is_full, is_empty, is_indented, lines_between, behind_empty, paragraph_from, paragraph_to, paragraph_and_behind, indentation, indentation_at, indent_from, indent_to, indented_lines, indented_inside}
use Rattle.text_objects.proofs.RunLemmas.{empty-end, empty-begin}

-- from the first character of a line to the newline of another
abbrev pub whole_pair : ℕ → Coord → Pair
whole_pair from end = record { anchor = record { line = from; column = 0 }; cursor = end }

pub whole-is : (text : List ℕ) (from to : ℕ) (end : Coord) → IsStored text → from < to → to ≤ line_count text → end.line + 1 ≡ to → IsPlace text end → end.column + 1 ≡ length (nth_line text end.line)
    → EndsAre text (Some (whole_pair from end)) (Some (lines_between text from to))
whole-is text from to end stored o there e place last =
    let next : offset text end + 1 ≡ line_begin text to = offset-line_before text end.line to end.column e place.on_line last in
    let before : line_begin text to - 1 ≡ offset text end = omega (arith, next) in
    (next_line_place text from stored (omega (arith, o, there)), place, ap (λ n. Some (ends (line_begin text from) n)) before)

-- the values that were found are those of the definitions
pub and-behind-is : (text : List ℕ) (n from to behind : ℕ) (pair : Option Pair) → is_full text n ≡ true → from ≡ run_begin (is_full text) n → to ≡ run_end (is_full text) (n + 1) (line_count text)
    → behind ≡ run_end (is_empty text) to (line_count text) → EndsAre text pair (Some (lines_between text from behind)) → EndsAre text pair (paragraph_and_behind text n)
and-behind-is text n from to behind pair full f t b h =
    let last : behind ≡ behind_empty text (paragraph_to text n) = b ∙ ap (behind_empty text) t in
    let whole : Some (lines_between text from behind) ≡ paragraph_and_behind text n = ap (λ k. Some (lines_between text k behind)) f ∙ ap (λ k. Some (lines_between text (paragraph_from text n) k)) last ∙ sym (ap (λ c. cond c (Some (lines_between text (paragraph_from text n) (behind_empty text (paragraph_to text n)))) None) full) in
    subst (EndsAre text pair) whole h

pub indented-is : (text : List ℕ) (tabstop n least from to : ℕ) (line : List ℕ) (pair : Option Pair) → is_full text n ≡ true → line ≡ nth_line text n → least ≡ indentation line tabstop
    → from ≡ run_begin (is_indented text tabstop least) n → to ≡ run_end (is_indented text tabstop least) (n + 1) (line_count text)
    → EndsAre text pair (Some (lines_between text from to)) → EndsAre text pair (indented_lines text tabstop n)
indented-is text tabstop n least from to line pair full l i f t h =
    let own : least ≡ indentation_at text tabstop n = i ∙ ap (λ k. indentation k tabstop) l in
    let first : from ≡ indent_from text tabstop n = f ∙ ap (λ d. run_begin (is_indented text tabstop d) n) own in
    let last : to ≡ indent_to text tabstop n = t ∙ ap (λ d. run_end (is_indented text tabstop d) (n + 1) (line_count text)) own in
    let whole : Some (lines_between text from to) ≡ indented_lines text tabstop n = ap (λ k. Some (lines_between text k to)) first ∙ ap (λ k. Some (lines_between text (indent_from text tabstop n) k)) last ∙ sym (ap (λ c. cond c (Some (lines_between text (indent_from text tabstop n) (indent_to text tabstop n))) None) full) in
    subst (EndsAre text pair) whole h

pub inside-is : (text : List ℕ) (tabstop n least from to first behind : ℕ) (line : List ℕ) (pair : Option Pair) → is_full text n ≡ true → line ≡ nth_line text n → least ≡ indentation line tabstop
    → from ≡ run_begin (is_indented text tabstop least) n → to ≡ run_end (is_indented text tabstop least) (n + 1) (line_count text)
    → first ≡ run_end (is_empty text) from (line_count text) → behind ≡ run_begin (is_empty text) to
    → EndsAre text pair (Some (lines_between text first behind)) → EndsAre text pair (indented_inside text tabstop n)
inside-is text tabstop n least from to first behind line pair full l i f t s b h =
    let own : least ≡ indentation_at text tabstop n = i ∙ ap (λ k. indentation k tabstop) l in
    let low : first ≡ behind_empty text (indent_from text tabstop n) = s ∙ ap (behind_empty text) (f ∙ ap (λ d. run_begin (is_indented text tabstop d) n) own) in
    let high : behind ≡ run_begin (is_empty text) (indent_to text tabstop n) = b ∙ ap (run_begin (is_empty text)) (t ∙ ap (λ d. run_end (is_indented text tabstop d) (n + 1) (line_count text)) own) in
    let whole : Some (lines_between text first behind) ≡ indented_inside text tabstop n = ap (λ k. Some (lines_between text k behind)) low ∙ ap (λ k. Some (lines_between text (behind_empty text (indent_from text tabstop n)) k)) high ∙ sym (ap (λ c. cond c (Some (lines_between text (behind_empty text (indent_from text tabstop n)) (run_begin (is_empty text) (indent_to text tabstop n)))) None) full) in
    subst (EndsAre text pair) whole h

-- the line in their midst isn't empty, so some lines are left
pub inside-ordered : (text : List ℕ) (n from to first behind : ℕ) → is_full text n ≡ true → from ≤ n → n + 1 ≤ to → n < line_count text → first ≡ run_end (is_empty text) from (line_count text) → behind ≡ run_begin (is_empty text) to → first < behind
inside-ordered text n from to first behind full f t l s b =
    let low : first ≤ n = subst (λ k. k ≤ n) (sym s) (empty-end text from n f l full) in
    let high : n < behind = subst (λ k. n < k) (sym b) (empty-begin text n to (omega (arith, t)) full) in
    omega (arith, low, high)
