-- The lines that characters which came one behind another are.
use Rattle.std.proofs.Common.{◌≡◌, ◌≢◌, ℕ, zero, suc, ◌<◌, List, [], ◌∷◌, ◌++◌, length, All, append_assoc, append-nil, refl, sym, ap, ◌∙◌, arith}
use Rattle.std.proofs.lemmas.List.Elements.{All-head, All-tail}
use Rattle.text_model.specs.Texts.{IsText, IsLine}
use Rattle.text_model.specs.Changes.{ended}
use Rattle.text_model.proofs.ChangeLemmas.{ended-text, ended-other, text_ends}
use Rattle.text_model.proofs.LineLemmas.{longer_is_line}
use Rattle.text_coding.specs.Surveying.{last_of}
use Rattle.text_coding.proofs.FormLemmas.{ends-last, test-false}

-- no newline among characters
abbrev pub IsOpen : List ℕ → Type 0
IsOpen cs = All (λ c. c ≢ 10) cs

pub one-open : (c : ℕ) → c ≢ 10 → IsOpen (c ∷ [])
one-open c other zero d lt = other
one-open c other (suc k) d lt = absurd (omega (arith, lt))

-- with a newline behind them they are a line
pub closed-line : (cs : List ℕ) → IsOpen cs → IsLine (cs ++ 10 ∷ [])
closed-line [] h = record { some = omega arith; ended = refl; only = λ k lt. absurd (omega (arith, lt)) }
closed-line (c ∷ cs) h = longer_is_line c (cs ++ 10 ∷ []) (All-head (λ x. x ≢ 10) c cs h) (closed-line cs (All-tail (λ x. x ≢ 10) c cs h))

pub last-append : (b : ℕ) (xs ys : List ℕ) → last_of b (xs ++ ys) ≡ last_of (last_of b xs) ys
last-append b [] ys = refl
last-append b (x ∷ xs) ys = last-append x xs ys

open-last : (b : ℕ) (cs : List ℕ) → 0 < length cs → IsOpen cs → last_of b cs ≢ 10
open-last b [] some h = absurd (omega (arith, some))
open-last b (c ∷ []) some h = All-head (λ x. x ≢ 10) c [] h
open-last b (c ∷ (d ∷ ds)) some h = open-last c (d ∷ ds) (omega arith) (All-tail (λ x. x ≢ 10) c (d ∷ ds) h)

closed-is : (lines line text : List ℕ) → last_of 0 (lines ++ line) ≢ 10 → text ≡ lines ++ (line ++ 10 ∷ []) → text ≡ ended (lines ++ line)
closed-is lines line text other e =
    e ∙ sym (append_assoc lines line (10 ∷ []))
    ∙ sym (ended-other (lines ++ line) (ends-last (lines ++ line) ∙ test-false (last_of 0 (lines ++ line)) 10 other))

-- characters without a newline alone, and behind lines
pub closed-alone : (lines line text : List ℕ) → length lines ≡ 0 → IsOpen line → text ≡ lines ++ (line ++ 10 ∷ []) → text ≡ ended (lines ++ line)
closed-alone [] [] text none h e = closed-is [] [] text (λ z. absurd (omega (arith, z))) e
closed-alone [] (c ∷ cs) text none h e = closed-is [] (c ∷ cs) text (open-last 0 (c ∷ cs) (omega arith) h) e
closed-alone (l ∷ ls) line text none h e = absurd (omega (arith, none))

pub closed-behind : (lines line text : List ℕ) → 0 < length line → IsOpen line → text ≡ lines ++ (line ++ 10 ∷ []) → text ≡ ended (lines ++ line)
closed-behind lines line text some h e = closed-is lines line text (λ z. open-last (last_of 0 lines) line some h (sym (last-append 0 lines line) ∙ z)) e

-- whole lines alone
pub whole-alone : (lines line text : List ℕ) → line ≡ [] → IsText lines → text ≡ lines → text ≡ ended (lines ++ line)
whole-alone lines line text none h e =
    let same : lines ++ line ≡ lines = ap (λ l. lines ++ l) none ∙ append-nil lines in
    e ∙ sym (ended-text lines (text_ends lines h)) ∙ sym (ap ended same)
