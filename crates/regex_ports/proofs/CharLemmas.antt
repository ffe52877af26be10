-- Bytes and the characters that begin before them.
use Rattle.std.proofs.Common.{◌≡◌, ℕ, suc, ◌+◌, ◌-◌, ◌<◌, ◌≤◌, cond, List, [], ◌∷◌, length, get_or, drop, refl, sym, ap, ap₂, ◌∙◌, arith, append-nil, add-one, eq-eqb, ne_eqb}
use Rattle.std.specs.Prelude.{encode_utf8}
use Rattle.std.proofs.Math.Seq.{drop-cons}
use Rattle.std.proofs.Math.ListN.{drop_of_length-le}
use Rattle.std.proofs.lemmas.Str.{length-le-encodes}
use Rattle.regex_ports.specs.Matching.{chars_before}

pub encode-some : (c : ℕ) → 0 < length (encode_utf8 c)
encode-some c = omega (arith, length-le-encodes (c ∷ []), ap length (append-nil (encode_utf8 c)))

-- no characters begin before the first byte
pub chars-done : (cs : List ℕ) (b : ℕ) → b ≡ 0 → chars_before cs b ≡ 0
chars-done [] b e = refl
chars-done (c ∷ cs) b e = ap (λ t. cond t 0 (suc (chars_before cs (b - length (encode_utf8 c))))) (eq-eqb b 0 e)

pub chars-some : (c : ℕ) (cs : List ℕ) (b : ℕ) → 0 < b → chars_before (c ∷ cs) b ≡ suc (chars_before cs (b - length (encode_utf8 c)))
chars-some c cs b h = ap (λ t. cond t 0 (suc (chars_before cs (b - length (encode_utf8 c))))) (ne_eqb b 0 (λ e. omega (arith, e, h)))

-- one character further
pub chars-step : (cs : List ℕ) (k b n m : ℕ) → k < length cs → n < b → m ≡ n + length (encode_utf8 (get_or cs k 0)) → k + chars_before (drop k cs) (b - n) ≡ k + 1 + chars_before (drop (k + 1) cs) (b - m)
chars-step cs k b n m l h e =
    let c : ℕ = get_or cs k 0 in
    let rest : b - n - length (encode_utf8 c) ≡ b - m = omega (arith, e) in
    let one : chars_before (drop k cs) (b - n) ≡ suc (chars_before (drop (suc k) cs) (b - n - length (encode_utf8 c))) = ap (λ xs. chars_before xs (b - n)) (drop-cons cs k 0 l) ∙ chars-some c (drop (suc k) cs) (b - n) (omega (arith, h)) in
    let same : chars_before (drop (suc k) cs) (b - n - length (encode_utf8 c)) ≡ chars_before (drop (k + 1) cs) (b - m) = ap₂ (λ j d. chars_before (drop j cs) d) (sym (add-one k)) rest in
    omega (arith, one, same)

-- all were passed
pub chars-over : (cs : List ℕ) (k b : ℕ) → length cs ≤ k → k + chars_before (drop k cs) b ≡ k
chars-over cs k b l = let none : chars_before (drop k cs) b ≡ 0 = ap (λ xs. chars_before xs b) (drop_of_length-le cs l) in omega (arith, none)
