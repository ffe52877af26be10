-- How many bytes some pieces have, and one more.
use Rattle.std.proofs.Common.{◌≡◌, ℕ, ◌+◌, List, [], ◌∷◌, ◌++◌, length, sym, ap, ◌∙◌, arith, add_assoc}
use Rattle.std.proofs.lemmas.List.{length-append}
use Rattle.client_links.specs.Sizes.{total}

total_more : (sizes : List ℕ) (n : ℕ) → total (sizes ++ n ∷ []) ≡ total sizes + n
total_more [] n = omega arith
total_more (size ∷ sizes) n = ap (λ t. size + t) (total_more sizes n) ∙ sym (add_assoc size (total sizes) n)

-- pieces that have all of some bytes still have them where one is added to both
pub total_grown : (sizes now bytes more piece : List ℕ) (n : ℕ) → now ≡ sizes ++ n ∷ [] → more ≡ bytes ++ piece → n ≡ length piece → total sizes ≡ length bytes → total now ≡ length more
total_grown sizes now bytes more piece n pushed added is same =
    omega (arith, ap total pushed, total_more sizes n, ap length added, length-append bytes piece, is, same)
