-- Lemmas on characters in UTF-8.
use Rattle.std.proofs.Common.{◌≡◌, ℕ, ◌+◌, ◌<◌, List, [], ◌∷◌, ◌++◌, length, take, get_or, encode_utf8_all, encode_utf8, ap, ◌∙◌, append-nil}
use Rattle.std.proofs.lemmas.List.{take_more}
use Rattle.std.proofs.lemmas.Str.{encodes-append}

-- one character more, in bytes
pub encoded-more : (cs : List ℕ) (i c : ℕ) → i < length cs → get_or cs i 0 ≡ c → encode_utf8_all (take (i + 1) cs) ≡ encode_utf8_all (take i cs) ++ encode_utf8 c
encoded-more cs i c h e =
    ap encode_utf8_all (take_more cs i 0 h) ∙ encodes-append (take i cs) (get_or cs i 0 ∷ []) ∙ ap (λ t. encode_utf8_all (take i cs) ++ t) (append-nil (encode_utf8 (get_or cs i 0)) ∙ ap encode_utf8 e)
