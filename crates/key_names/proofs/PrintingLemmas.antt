-- The bytes of a spelling.
use Rattle.std.proofs.Common.{◌≡◌, ℕ, ◌<◌, ◌^◌, List, [], ◌∷◌, ◌++◌, true, false, Bool, cond, refl, ap, sym, ◌∙◌, append_assoc, encode_utf8_all}
use Rattle.std.specs.Prelude.{decimal, codes}
use Rattle.std.proofs.lemmas.Str.{encodes-append, encodes-IsAscii}
use Rattle.std.proofs.Math.Utf8.{encode}
use Rattle.std.proofs.lemmas.Fmt.{IsAscii-decimal}
use Rattle.key_names.specs.declared.key.Key.{Key}
use Rattle.key_names.specs.Printing.{held_text, base_text, modifier_text, spelling, stands_alone}

-- a function key's number has ASCII digits
pub encodes-function_key : (n : ℕ) → n < 2 ^ 64 → encode_utf8_all (70 ∷ decimal n) ≡ 70 ∷ decimal n
unfolding encode
encodes-function_key n small =
    encodes-append (70 ∷ []) (decimal n) ∙ ap (λ ds. 70 ∷ ds) (encodes-IsAscii (decimal n) (IsAscii-decimal n small))

-- the letters of a modifier are ASCII
encodes-held : (b : Bool) (letter : ℕ) → encode_utf8_all (letter ∷ 45 ∷ []) ≡ letter ∷ 45 ∷ [] → encode_utf8_all (held_text b (letter ∷ 45 ∷ [])) ≡ held_text b (letter ∷ 45 ∷ [])
encodes-held true letter h = h
encodes-held false letter h = refl

-- the bytes that are written one after another for a key in brackets
pub encodes-bracketed : (key : Key) → stands_alone key ≡ false → (((((60 ∷ []) ++ held_text key.control (codes "c-")) ++ held_text key.alt (codes "a-")) ++ held_text key.shift (codes "s-")) ++ encode_utf8_all (base_text key.base)) ++ 62 ∷ [] ≡ encode_utf8_all (spelling key)
unfolding encode
encodes-bracketed key alone =
    let whole : encode_utf8_all (60 ∷ (modifier_text key ++ base_text key.base) ++ 62 ∷ []) ≡ (60 ∷ []) ++ (((held_text key.control (codes "c-") ++ (held_text key.alt (codes "a-") ++ held_text key.shift (codes "s-"))) ++ encode_utf8_all (base_text key.base)) ++ 62 ∷ []) =
    encodes-append (60 ∷ []) ((modifier_text key ++ base_text key.base) ++ 62 ∷ [])
    ∙ ap (λ bs. 60 ∷ bs) (encodes-append (modifier_text key ++ base_text key.base) (62 ∷ []) ∙ ap (λ bs. bs ++ 62 ∷ []) (encodes-append (modifier_text key) (base_text key.base)
    ∙ ap (λ bs. bs ++ encode_utf8_all (base_text key.base)) (encodes-append (held_text key.control (codes "c-")) (held_text key.alt (codes "a-") ++ held_text key.shift (codes "s-"))
    ∙ ap (λ bs. encode_utf8_all (held_text key.control (codes "c-")) ++ bs) (encodes-append (held_text key.alt (codes "a-")) (held_text key.shift (codes "s-")))
    ∙ ap (λ bs. bs ++ (encode_utf8_all (held_text key.alt (codes "a-")) ++ encode_utf8_all (held_text key.shift (codes "s-")))) (encodes-held key.control 99 refl)
    ∙ ap (λ bs. held_text key.control (codes "c-") ++ (bs ++ encode_utf8_all (held_text key.shift (codes "s-")))) (encodes-held key.alt 97 refl)
    ∙ ap (λ bs. held_text key.control (codes "c-") ++ (held_text key.alt (codes "a-") ++ bs)) (encodes-held key.shift 115 refl)))) in
    let grouped : (((((60 ∷ []) ++ held_text key.control (codes "c-")) ++ held_text key.alt (codes "a-")) ++ held_text key.shift (codes "s-")) ++ encode_utf8_all (base_text key.base)) ++ 62 ∷ [] ≡ (60 ∷ []) ++ (((held_text key.control (codes "c-") ++ (held_text key.alt (codes "a-") ++ held_text key.shift (codes "s-"))) ++ encode_utf8_all (base_text key.base)) ++ 62 ∷ []) = simp append_assoc in
    grouped ∙ sym whole ∙ sym (ap (λ b. encode_utf8_all (cond b (base_text key.base) (60 ∷ (modifier_text key ++ base_text key.base) ++ 62 ∷ []))) alone)

-- six pieces that are written one after another
pub written_six : (old s1 s2 s3 s4 s5 s6 a h1 h2 h3 b1 b2 b3 d e : List ℕ) → s1 ≡ old ++ a → s2 ≡ s1 ++ h1 → h1 ≡ b1 → s3 ≡ s2 ++ h2 → h2 ≡ b2 → s4 ≡ s3 ++ h3 → h3 ≡ b3 → s5 ≡ s4 ++ d → s6 ≡ s5 ++ e → s6 ≡ old ++ (((((a ++ b1) ++ b2) ++ b3) ++ d) ++ e)
written_six old s1 s2 s3 s4 s5 s6 a h1 h2 h3 b1 b2 b3 d e p q q' r r' s s' t u =
    rw (u, t, s, r, q, p, q', r', s') (simp append_assoc)
