-- The text of keys that were struck, one key after another.
use Rattle.std.proofs.Common.{◌≡◌, ℕ, suc, ◌+◌, ◌<◌, List, [], ◌∷◌, ◌++◌, length, take, get_or, sym, ap, ◌∙◌, append-nil, arith}
use Rattle.std.proofs.Math.Seq.{take-suc}
use Rattle.std.proofs.lemmas.Grind.{flat_map-append}
use Rattle.std.proofs.lemmas.Str.{encodes-append}
use Rattle.std.specs.Prelude.{encode_utf8_all}
use Rattle.key_names.specs.declared.key.Key.{Key}
use Rattle.key_names.specs.Printing.{spelling}
use Rattle.normal_keys.specs.Recording.{struck_text}

next-taken : (keys : List Key) (i : ℕ) (d x : Key) → x ≡ get_or keys i d → i < length keys → take (i + 1) keys ≡ take i keys ++ x ∷ []
next-taken keys i d x is lt =
    let next : i + 1 ≡ suc i = omega arith in
    ap (λ n. take n keys) next ∙ take-suc keys i d lt ∙ ap (λ (k : Key). take i keys ++ k ∷ []) (sym is)

struck-behind : (keys : List Key) (x : Key) → struck_text (keys ++ x ∷ []) ≡ struck_text keys ++ spelling x
struck-behind keys x = flat_map-append spelling keys (x ∷ []) ∙ ap (λ (q : List ℕ). struck_text keys ++ q) (append-nil (spelling x))

pub struck-more : (keys : List Key) (i : ℕ) (d x : Key) (old new : List ℕ) → x ≡ get_or keys i d → i < length keys → old ≡ encode_utf8_all (struck_text (take i keys)) → new ≡ old ++ encode_utf8_all (spelling x)
    → new ≡ encode_utf8_all (struck_text (take (i + 1) keys))
struck-more keys i d x old new is lt o n =
    n ∙ ap (λ (q : List ℕ). q ++ encode_utf8_all (spelling x)) o
    ∙ sym (encodes-append (struck_text (take i keys)) (spelling x))
    ∙ ap encode_utf8_all (sym (ap struck_text (next-taken keys i d x is lt) ∙ struck-behind (take i keys) x))
