-- Lemmas on cutting a text into its lines.
use Rattle.std.proofs.Common.{◌≡◌, ◌≢◌, ℕ, ◌+◌, ◌-◌, ◌<◌, ◌≤◌, List, [], ◌∷◌, ◌++◌, length, take, drop, get_or, sym, ap, ◌∙◌, arith, append_assoc, take-append-drop, length-drop, length-take-le, get_or-take, get_or-drop, ap₂, inl, inr}
use Rattle.text_model.proofs.PlaceLemmas.{three_ways}
use Rattle.std.proofs.lemmas.List.{drop-drop}
use Rattle.text_model.specs.Texts.{IsLine, lines_of}
use Rattle.text_model.proofs.LineLemmas.{lines_of-line}

-- from a start up to and with the first newline is a line
pub next_line : (text : List ℕ) (start i : ℕ) → start ≤ i → i < length text → get_or text i 0 ≡ 10 → ((k : ℕ) → start ≤ k → k < i → get_or text k 0 ≢ 10) → IsLine (take (i + 1 - start) (drop start text))
next_line text start i h lt e none =
    let n : ℕ = i + 1 - start in
    let room : n ≤ length (drop start text) = omega (arith, length-drop start text) in
    let long : length (take n (drop start text)) ≡ n = length-take-le n (drop start text) room in
    let at : start + (n - 1) ≡ i = omega arith in
    record {
      some = omega arith;
      ended = ap (λ m. get_or (take n (drop start text)) (m - 1) 0) long ∙ get_or-take n (drop start text) (n - 1) 0 (omega arith) ∙ get_or-drop start text (n - 1) 0 ∙ ap (λ m. get_or text m 0) at ∙ e;
      only = λ k l q. none (start + k) (omega arith) (omega arith) (sym (get_or-drop start text k 0) ∙ sym (get_or-take n (drop start text) k 0 (omega arith)) ∙ q);
    }

-- the lines from a start on are that line and the lines behind it
pub lines_from : (text : List ℕ) (start i : ℕ) → start ≤ i → IsLine (take (i + 1 - start) (drop start text)) → lines_of (drop start text) ≡ take (i + 1 - start) (drop start text) ∷ lines_of (drop (i + 1) text)
lines_from text start i h line =
    let n : ℕ = i + 1 - start in
    let sum : start + n ≡ i + 1 = omega arith in
    ap lines_of (sym (take-append-drop n (drop start text)) ∙ ap (λ t. take n (drop start text) ++ t) (drop-drop n start text ∙ ap (λ m. drop m text) sum)) ∙ lines_of-line (take n (drop start text)) (drop (i + 1) text) line

-- one more line cut
pub cut_more : (text : List ℕ) (lines : List (List ℕ)) (start i : ℕ) → start ≤ i → i < length text → get_or text i 0 ≡ 10 → ((k : ℕ) → start ≤ k → k < i → get_or text k 0 ≢ 10) → lines ++ lines_of (drop start text) ≡ lines_of text → (lines ++ take (i + 1 - start) (drop start text) ∷ []) ++ lines_of (drop (i + 1) text) ≡ lines_of text
cut_more text lines start i h lt e none before =
    append_assoc lines (take (i + 1 - start) (drop start text) ∷ []) (lines_of (drop (i + 1) text)) ∙ ap (λ t. lines ++ t) (sym (lines_from text start i h (next_line text start i h lt e none))) ∙ before

pub cut_step : (text : List ℕ) (lines new : List (List ℕ)) (line : List ℕ) (start after i : ℕ) → start ≤ i → i < length text → get_or text i 0 ≡ 10 → ((k : ℕ) → start ≤ k → k < i → get_or text k 0 ≢ 10) → lines ++ lines_of (drop start text) ≡ lines_of text → new ≡ lines ++ line ∷ [] → line ≡ take (i + 1 - start) (drop start text) → after ≡ i + 1 → new ++ lines_of (drop after text) ≡ lines_of text
cut_step text lines new line start after i h lt e none before n l a =
    ap₂ (λ x y. x ++ lines_of (drop y text)) (n ∙ ap (λ t. lines ++ t ∷ []) l) a ∙ cut_more text lines start i h lt e none before

-- no newline so far, nor at the next place
pub none_more : (text : List ℕ) (start i : ℕ) → get_or text i 0 ≢ 10 → ((k : ℕ) → start ≤ k → k < i → get_or text k 0 ≢ 10) → (k : ℕ) → start ≤ k → k < i + 1 → get_or text k 0 ≢ 10
none_more text start i here before k h lt =
    elim (three_ways k i) [
      | inl less ↦ before k h less
      | inr w ↦ elim w [ inl same ↦ rw same here | inr more ↦ absurd (omega arith) ]
    ]
