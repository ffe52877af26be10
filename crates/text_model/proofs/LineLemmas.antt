-- Lemmas on lines and on texts as lines one after another.
use Rattle.std.proofs.Common.{◌≡◌, ◌≢◌, ℕ, zero, suc, ◌+◌, ◌-◌, ◌<◌, Bool, true, false, cond, eqb, List, [], ◌∷◌, ◌++◌, length, get_or, All, refl, sym, ap, subst, ◌∙◌, arith, append_assoc, add-one, eq-eqb, ne_eqb, eqb-true, inl, inr}
use Rattle.std.proofs.lemmas.Bool.{eqb-false}
use Rattle.text_model.proofs.CoordLemmas.{test_cases}
use Rattle.std.proofs.lemmas.List.Elements.{All-head, All-tail, All-cons, All-nil}
use Rattle.text_model.specs.Texts.{IsLine, onto_first, lines_of, joined}

pub joined-append : (xs ys : List (List ℕ)) → joined (xs ++ ys) ≡ joined xs ++ joined ys
joined-append [] ys = refl
joined-append (x ∷ xs) ys = ap (λ t. x ++ t) (joined-append xs ys) ∙ sym (append_assoc x (joined xs) (joined ys))

pub joined-onto_first : (c : ℕ) (ls : List (List ℕ)) → joined (onto_first c ls) ≡ c ∷ joined ls
joined-onto_first c [] = refl
joined-onto_first c (l ∷ ls) = refl

pub joined-lines_of : (text : List ℕ) → joined (lines_of text) ≡ text
joined-lines_of [] = refl
joined-lines_of (c ∷ cs) =
    elim (eqb c 10) as (λ v. joined (cond v ((c ∷ []) ∷ lines_of cs) (onto_first c (lines_of cs))) ≡ c ∷ cs) [
      | true ↦ ap (λ t. c ∷ t) (joined-lines_of cs)
      | false ↦ joined-onto_first c (lines_of cs) ∙ ap (λ t. c ∷ t) (joined-lines_of cs)
    ]

-- the last character of a longer list
pub last-cons : (c d : ℕ) (ds : List ℕ) → get_or (c ∷ d ∷ ds) (length (c ∷ d ∷ ds) - 1) 0 ≡ get_or (d ∷ ds) (length (d ∷ ds) - 1) 0
last-cons c d ds =
    let e : suc (suc (length ds)) - 1 ≡ suc (length ds) = omega arith in
    let e' : suc (length ds) - 1 ≡ length ds = omega arith in
    rw (e, e') refl

-- what follows the first character of a line of several
pub tail_is_line : (c d : ℕ) (ds : List ℕ) → IsLine (c ∷ d ∷ ds) → IsLine (d ∷ ds)
tail_is_line c d ds h = record {
  some = omega arith;
  ended = sym (last-cons c d ds) ∙ h.ended;
  only = λ k lt e. h.only (k + 1) (omega arith) (rw add-one e);
}

longer_only : (c d : ℕ) (ds : List ℕ) → c ≢ 10 → IsLine (d ∷ ds) → (k : ℕ) → k + 1 < length (c ∷ d ∷ ds) → get_or (c ∷ d ∷ ds) k 0 ≢ 10
longer_only c d ds ne h zero lt e = ne e
longer_only c d ds ne h (suc k) lt e = h.only k (omega arith) e

-- a character that is no newline, before a line
pub longer_is_line : (c : ℕ) (l : List ℕ) → c ≢ 10 → IsLine l → IsLine (c ∷ l)
longer_is_line c [] ne h = absurd (omega (arith, h.some))
longer_is_line c (d ∷ ds) ne h = record {
  some = omega arith;
  ended = last-cons c d ds ∙ h.ended;
  only = λ k. longer_only c d ds ne h k;
}

-- a line before other characters is the first of their lines
pub lines_of-line : (l rest : List ℕ) → IsLine l → lines_of (l ++ rest) ≡ l ∷ lines_of rest
lines_of-line [] rest h = absurd (omega (arith, h.some))
lines_of-line (c ∷ []) rest h =
    let P : Bool → List (List ℕ) = λ v. cond v ((c ∷ []) ∷ lines_of rest) (onto_first c (lines_of rest)) in
    ap P (eq-eqb c 10 h.ended)
lines_of-line (c ∷ d ∷ ds) rest h =
    let P : Bool → List (List ℕ) = λ v. cond v ((c ∷ []) ∷ lines_of ((d ∷ ds) ++ rest)) (onto_first c (lines_of ((d ∷ ds) ++ rest))) in
    ap P (ne_eqb c 10 (h.only 0 (omega arith))) ∙ ap (onto_first c) (lines_of-line (d ∷ ds) rest (tail_is_line c d ds h))

pub lines_of-joined : (ls : List (List ℕ)) → All IsLine ls → lines_of (joined ls) ≡ ls
lines_of-joined [] h = refl
lines_of-joined (l ∷ ls) h =
    lines_of-line l (joined ls) (All-head IsLine l ls h) ∙ ap (λ t. l ∷ t) (lines_of-joined ls (All-tail IsLine l ls h))

-- every line of a text is a line; the premise is that of a text, or of none
pub lines_are_lines : (text : List ℕ) → (0 < length text → get_or text (length text - 1) 0 ≡ 10) → All IsLine (lines_of text)
lines_are_lines [] h = All-nil IsLine
lines_are_lines (c ∷ []) h = one_character c (h (omega arith))
  where
    one_character : (c : ℕ) → c ≡ 10 → All IsLine (lines_of (c ∷ []))
    one_character c e =
        let P : Bool → Type 0 = λ v. All IsLine (cond v ((c ∷ []) ∷ []) ((c ∷ []) ∷ [])) in
        subst P (sym (eq-eqb c 10 e)) (All-cons IsLine (c ∷ []) [] (record { some = omega arith; ended = e; only = λ k lt. absurd (omega arith) }) (All-nil IsLine))
lines_are_lines (c ∷ d ∷ ds) h =
    let rest : All IsLine (lines_of (d ∷ ds)) = lines_are_lines (d ∷ ds) (λ p. sym (last-cons c d ds) ∙ h (omega arith)) in
    elim (test_cases (eqb c 10)) [
      | inl e ↦ let P : Bool → Type 0 = λ v. All IsLine (cond v ((c ∷ []) ∷ lines_of (d ∷ ds)) (onto_first c (lines_of (d ∷ ds)))) in
          subst P (sym e) (All-cons IsLine (c ∷ []) (lines_of (d ∷ ds)) (record { some = omega arith; ended = eqb-true c 10 e; only = λ k lt. absurd (omega arith) }) rest)
      | inr e ↦ let P : Bool → Type 0 = λ v. All IsLine (cond v ((c ∷ []) ∷ lines_of (d ∷ ds)) (onto_first c (lines_of (d ∷ ds)))) in
          subst P (sym e) (onto_lines c (lines_of (d ∷ ds)) (some_lines d ds) (eqb-false c 10 e) rest)
    ]
  where
    onto_lines : (c : ℕ) (ls : List (List ℕ)) → 0 < length ls → c ≢ 10 → All IsLine ls → All IsLine (onto_first c ls)
    onto_lines c [] some ne all = absurd (omega arith)
    onto_lines c (l ∷ ls) some ne all = All-cons IsLine (c ∷ l) ls (longer_is_line c l ne (All-head IsLine l ls all)) (All-tail IsLine l ls all)

    some_onto : (c : ℕ) (ls : List (List ℕ)) → 0 < length (onto_first c ls)
    some_onto c [] = omega arith
    some_onto c (l ∷ ls) = omega arith

    some_lines : (d : ℕ) (ds : List ℕ) → 0 < length (lines_of (d ∷ ds))
    some_lines d ds =
        elim (eqb d 10) as (λ v. 0 < length (cond v ((d ∷ []) ∷ lines_of ds) (onto_first d (lines_of ds)))) [ true ↦ omega arith | false ↦ some_onto d (lines_of ds) ]
