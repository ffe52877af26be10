-- Strings joined by spaces, as they are read one after another.
use Rattle.std.proofs.Common.{◌≡◌, ℕ, zero, suc, ◌+◌, ◌<◌, ◌≤◌, List, [], ◌∷◌, ◌++◌, length, map, take, get_or, refl, ap, sym, ◌∙◌, append_assoc, arith}
use Rattle.std.proofs.lemmas.List.{append-nil}
use Rattle.std.specs.Str.{chars}
use Rattle.key_rows.specs.Reading.{more_spaced, joined_text}

-- one more string behind others, each with a space before it
more-next : (strings : List (List ℕ)) (n : ℕ) (d : List ℕ) → n < length strings
    → more_spaced (map chars (take (suc n) strings)) ≡ more_spaced (map chars (take n strings)) ++ 32 ∷ chars (get_or strings n d)
more-next [] n d h = absurd (omega (arith, h))
more-next (s ∷ ss) zero d h = ap (λ t. 32 ∷ t) (append-nil (chars s))
more-next (s ∷ ss) (suc n) d h =
    ap (λ t. 32 ∷ (chars s ++ t)) (more-next ss n d (omega (arith, h)))
    ∙ ap (λ t. 32 ∷ t) (sym (append_assoc (chars s) (more_spaced (map chars (take n ss))) (32 ∷ chars (get_or ss n d))))

-- one more string behind at least one
pub joined-next : (strings : List (List ℕ)) (n : ℕ) (d : List ℕ) → 1 ≤ n → n < length strings
    → joined_text (take (n + 1) strings) ≡ (joined_text (take n strings) ++ 32 ∷ []) ++ chars (get_or strings n d)
joined-next [] n d l h = absurd (omega (arith, h))
joined-next (s ∷ ss) zero d l h = absurd (omega (arith, l))
joined-next (s ∷ ss) (suc n) d l h =
    let next : suc n + 1 ≡ suc (suc n) = omega arith in
    ap (λ k. joined_text (take k (s ∷ ss))) next
    ∙ ap (λ t. chars s ++ t) (more-next ss n d (omega (arith, h)))
    ∙ sym (append_assoc (chars s) (more_spaced (map chars (take n ss))) (32 ∷ chars (get_or ss n d)))
    ∙ sym (append_assoc (chars s ++ more_spaced (map chars (take n ss))) (32 ∷ []) (chars (get_or ss n d)))

-- the first string alone
pub joined-first : (strings : List (List ℕ)) (first : List ℕ) (d : List ℕ) → 0 < length strings → first ≡ get_or strings 0 d → chars first ≡ joined_text (take 1 strings)
joined-first [] first d l e = absurd (omega (arith, l))
joined-first (s ∷ ss) first d l e = ap chars e ∙ sym (append-nil (chars s))
