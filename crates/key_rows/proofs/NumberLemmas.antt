-- Numbers one after another.
use Rattle.std.proofs.Common.{◌≡◌, ℕ, zero, suc, ◌+◌, [], ◌∷◌, ◌++◌, ap, ◌∙◌, arith}
use Rattle.std.specs.Prelude.{decimal}
use Rattle.key_rows.specs.Reading.{numbers_from}

-- one more behind so many
pub numbers-more : (n k : ℕ) → numbers_from n (suc k) ≡ numbers_from n k ++ decimal (n + k) ∷ []
numbers-more n zero = ap (λ m. decimal m ∷ []) (omega arith)
numbers-more n (suc k) = ap (λ t. decimal n ∷ t) (numbers-more (n + 1) k ∙ ap (λ m. numbers_from (n + 1) k ++ decimal m ∷ []) (omega arith))

pub numbers-next : (n k : ℕ) → numbers_from n (k + 1) ≡ numbers_from n k ++ decimal (n + k) ∷ []
numbers-next n k = let next : k + 1 ≡ suc k = omega arith in ap (numbers_from n) next ∙ numbers-more n k
