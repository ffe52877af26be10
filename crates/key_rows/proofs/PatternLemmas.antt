-- Patterns as texts.
use Rattle.std.proofs.Common.{◌≡◌, ℕ, ◌+◌, ◌-◌, ◌<◌, Bool, true, false, List, [], ◌∷◌, ◌++◌, length, take, get_or, refl, sym, ap, ◌∙◌, arith, append-nil}
use Rattle.std.specs.Prelude.{not, ◌&&◌, nat_lt}
use Rattle.std.specs.Str.{chars}
use Rattle.std.proofs.lemmas.Bool.{false≢true, lt-ltb}
use Rattle.std.proofs.lemmas.List.{take_more}
use Rattle.std.proofs.lemmas.Grind.{flat_map-append}
use Rattle.key_rows.specs.Patterns.{last_string, escaped_one, escaped_pattern, is_word_at, begins_word}

-- of no strings the last one is empty
pub last-of-none : (ss : List (List ℕ)) → length ss ≡ 0 → chars (last_string ss) ≡ []
unfolding chars
last-of-none [] h = refl
last-of-none (s ∷ ss) h = absurd (omega (arith, h))

-- one more character is escaped
pub escaped-more : (cs : List ℕ) (i c : ℕ) → i < length cs → c ≡ get_or cs i c → escaped_pattern (take (i + 1) cs) ≡ escaped_pattern (take i cs) ++ escaped_one c
escaped-more cs i c h r =
    ap escaped_pattern (take_more cs i c h ∙ ap (λ x. take i cs ++ x ∷ []) (sym r))
    ∙ flat_map-append escaped_one (take i cs) (c ∷ [])
    ∙ ap (λ t. escaped_pattern (take i cs) ++ t) (append-nil (escaped_one c))

-- tests
both-then-not : (a b c t : Bool) → a ≡ true → b ≡ true → t ≡ c → not t ≡ (a && not (b && c))
both-then-not true true c t e f g = ap not g
both-then-not true false c t e f g = absurd (false≢true f)
both-then-not false b c t e f g = absurd (false≢true e)

-- a word begins where a word character stands behind another one, or doesn't
pub begins-behind : (text : List ℕ) (o p : ℕ) (t : Bool) → is_word_at text o ≡ true → p + 1 ≡ o → t ≡ is_word_at text p → not t ≡ begins_word text o
begins-behind text o p t w e r = both-then-not (is_word_at text o) (nat_lt 0 o) (is_word_at text (o - 1)) t w (lt-ltb 0 o (omega (arith, e))) (r ∙ ap (is_word_at text) (omega (arith, e)))
