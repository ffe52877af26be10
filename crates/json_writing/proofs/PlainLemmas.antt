-- Characters that stand for themselves.
use Rattle.std.proofs.Common.{◌≡◌, ℕ, suc, ◌+◌, ◌<◌, ◌≤◌, ◌&&◌, true, false, not, eqb, leb, ltb, List, [], ◌∷◌, ◌++◌, length, take, drop, get_or, refl, sym, ap, subst, ◌∙◌, inl, inr, arith, append_assoc, ne_eqb, leb-true, le-ltb, lt-ltb, get_or-take, length-take-le}
use Rattle.std.proofs.lemmas.Bool.{cases_lt, and_parts, not-true}
use Rattle.std.proofs.lemmas.List.{get_or_default, take_all, take-append-drop}
use Rattle.json_writing.specs.JsonText.{escaped, all_escaped, is_plain, ArePlain}
use Rattle.json_writing.proofs.Bytes.{all_escaped-append}

-- each stands for itself alone
escaped-plain : (c : ℕ) → is_plain c ≡ true → escaped c ≡ c ∷ []
escaped-plain c h =
    let p = and_parts (leb 32 c && leb c 126 && not (eqb c 34)) (not (eqb c 92)) h in
    let q = and_parts (leb 32 c && leb c 126) (not (eqb c 34)) p.0 in
    let r = and_parts (leb 32 c) (leb c 126) q.0 in
    let low : 32 ≤ c = leb-true 32 c r.0 in
    let high : c ≤ 126 = leb-true c 126 r.1 in
    let quote : eqb c 34 ≡ false = not-true (eqb c 34) q.1 in
    let slash : eqb c 92 ≡ false = not-true (eqb c 92) p.1 in
    let back : eqb c 8 ≡ false = ne_eqb c 8 (λ e. omega (arith, e, low)) in
    let tab : eqb c 9 ≡ false = ne_eqb c 9 (λ e. omega (arith, e, low)) in
    let newline : eqb c 10 ≡ false = ne_eqb c 10 (λ e. omega (arith, e, low)) in
    let page : eqb c 12 ≡ false = ne_eqb c 12 (λ e. omega (arith, e, low)) in
    let carriage : eqb c 13 ≡ false = ne_eqb c 13 (λ e. omega (arith, e, low)) in
    let control : ltb c 32 ≡ false = le-ltb c 32 low in
    let byte : ltb c 128 ≡ true = lt-ltb c 128 (omega (arith, high)) in
    rw (quote, slash, back, tab, newline, page, carriage, control, byte) refl

pub all_escaped-plain : (xs : List ℕ) → ArePlain xs → all_escaped xs ≡ xs
all_escaped-plain [] h = refl
all_escaped-plain (x ∷ xs) h =
    ap (λ b. b ++ all_escaped xs) (escaped-plain x (h 0 (omega arith))) ∙ ap (λ b. x ∷ b) (all_escaped-plain xs (λ n k. h (suc n) (omega (arith, k))))

-- none, one more, and all of them
pub plain-none : (xs : List ℕ) → ArePlain (take 0 xs)
plain-none [] n h = absurd (omega (arith, h))
plain-none (x ∷ xs) n h = absurd (omega (arith, h))

pub plain-more : (xs : List ℕ) (i x : ℕ) → i < length xs → x ≡ get_or xs i x → ArePlain (take i xs) → is_plain x ≡ true → ArePlain (take (i + 1) xs)
plain-more xs i x inside is h p n few =
    let short : length (take (i + 1) xs) ≡ i + 1 = length-take-le (i + 1) xs (omega (arith, inside)) in
    let until : n < i + 1 = omega (arith, few, short) in
    let here : get_or (take (i + 1) xs) n 0 ≡ get_or xs n 0 = get_or-take (i + 1) xs n 0 until in
    elim (cases_lt n i) [
      | inl before ↦
          let front : length (take i xs) ≡ i = length-take-le i xs (omega (arith, inside)) in
          ap is_plain (here ∙ sym (get_or-take i xs n 0 before)) ∙ h n (omega (arith, before, front))
      | inr behind ↦
          let same : n ≡ i = omega (arith, behind, until) in
          ap is_plain (here ∙ ap (λ k. get_or xs k 0) same ∙ get_or_default xs i 0 x inside ∙ sym is) ∙ p
    ]

pub plain-all : (xs : List ℕ) (i : ℕ) → length xs ≤ i → ArePlain (take i xs) → ArePlain xs
plain-all xs i h p = subst ArePlain (take_all i xs h) p

pub plain-whole : (xs : List ℕ) → ArePlain xs → ArePlain (take (length xs) xs)
plain-whole xs p = subst ArePlain (sym (take_all (length xs) xs (omega arith))) p

-- a piece whose front stands for itself
pub plain_parts : (old mid new text front rest : List ℕ) (n : ℕ) → front ≡ take n text → rest ≡ drop n text → ArePlain (take n text) → mid ≡ old ++ front → new ≡ mid ++ all_escaped rest → new ≡ old ++ all_escaped text
plain_parts old mid new text front rest n f r p m w =
    let plain : all_escaped front ≡ front = all_escaped-plain front (subst ArePlain (sym f) p) in
    let whole : front ++ rest ≡ text = ap (λ x. x ++ rest) f ∙ ap (λ x. take n text ++ x) r ∙ take-append-drop n text in
    w ∙ ap (λ x. x ++ all_escaped rest) m ∙ append_assoc old front (all_escaped rest)
    ∙ ap (λ x. old ++ (x ++ all_escaped rest)) (sym plain) ∙ ap (λ x. old ++ x) (sym (all_escaped-append front rest) ∙ ap all_escaped whole)
