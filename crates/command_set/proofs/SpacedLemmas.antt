-- Words one behind another, with a space between each two, as they are written one after another.
use Rattle.std.proofs.Common.{◌≡◌, ℕ, zero, suc, ◌+◌, ◌<◌, ◌≤◌, List, [], ◌∷◌, ◌++◌, length, take, get_or, ap, sym, ◌∙◌, append_assoc, arith}
use Rattle.std.proofs.lemmas.List.{append-nil}
use Rattle.key_rows.specs.Reading.{more_spaced, spaced_texts}

-- one more word behind others, each with a space before it
more-next : (words : List (List ℕ)) (n : ℕ) (d : List ℕ) → n < length words → more_spaced (take (suc n) words) ≡ more_spaced (take n words) ++ 32 ∷ get_or words n d
more-next [] n d h = absurd (omega (arith, h))
more-next (w ∷ ws) zero d h = ap (λ t. 32 ∷ t) (append-nil w)
more-next (w ∷ ws) (suc n) d h =
    ap (λ t. 32 ∷ (w ++ t)) (more-next ws n d (omega (arith, h)))
    ∙ ap (λ t. 32 ∷ t) (sym (append_assoc w (more_spaced (take n ws)) (32 ∷ get_or ws n d)))

-- one more word behind at least one, and all that behind a text
pub spaced-next : (text : List ℕ) (words : List (List ℕ)) (n : ℕ) (d : List ℕ) → 1 ≤ n → n < length words
    → ((text ++ spaced_texts (take n words)) ++ 32 ∷ []) ++ get_or words n d ≡ text ++ spaced_texts (take (n + 1) words)
spaced-next text [] n d l h = absurd (omega (arith, h))
spaced-next text (w ∷ ws) zero d l h = absurd (omega (arith, l))
spaced-next text (w ∷ ws) (suc n) d l h =
    let next : suc n + 1 ≡ suc (suc n) = omega arith in
    let so_far : List ℕ = w ++ more_spaced (take n ws) in
    append_assoc (text ++ so_far) (32 ∷ []) (get_or ws n d)
    ∙ append_assoc text so_far (32 ∷ get_or ws n d)
    ∙ ap (λ t. text ++ t) (append_assoc w (more_spaced (take n ws)) (32 ∷ get_or ws n d) ∙ ap (λ t. w ++ t) (sym (more-next ws n d (omega (arith, h)))))
    ∙ ap (λ k. text ++ spaced_texts (take k (w ∷ ws))) (sym next)

-- the first word alone
pub spaced-first : (text : List ℕ) (words : List (List ℕ)) (d : List ℕ) → 0 < length words → text ++ get_or words 0 d ≡ text ++ spaced_texts (take 1 words)
spaced-first text [] d l = absurd (omega (arith, l))
spaced-first text (w ∷ ws) d l = ap (λ t. text ++ t) (sym (append-nil w))
