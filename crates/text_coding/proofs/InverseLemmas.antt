-- Saving what was loaded.
use Rattle.std.proofs.Common.{◌≡◌, ℕ, ◌+◌, ◌/◌, ◌%◌, Bool, true, false, cond, ◌==◌, ◌&&◌, List, [], ◌∷◌, ◌++◌, length, drop, Result, Ok, Err, nat_le, nat_eq, refl, sym, ap, ◌∙◌, subst, arith, IsUtf8, chars, encode_utf8_all, ltb, true≢false}
use Rattle.std.specs.Str.{is_utf8}
use Rattle.std.specs.Str.Lossy.{utf8_valid_len}
use Rattle.std.specs.Char.{encode_utf8 as encode}
use Rattle.std.specs.List.{starts_with}
use Rattle.std.proofs.lemmas.Bool.{eqb-true}
use Rattle.std.proofs.lemmas.Bool.Decides.{Decides-eqb}
use Rattle.std.proofs.lemmas.Slice.Eq.{starts_is}
use Rattle.std.proofs.lemmas.Str.{IsUtf8-from_is_utf8, encodes-chars}
use Rattle.text_model.specs.declared.TheConstants.{MAX_CHARS}
use Rattle.text_model.specs.Texts.{ends_in_newline}
use Rattle.text_model.proofs.ChangeLemmas.{ended-text}
use Rattle.text_coding.specs.declared.form.Eol.TheVariants.{Lf, Crlf}
use Rattle.text_coding.specs.declared.form.Bom.{Bom}
use Rattle.text_coding.specs.declared.form.Bom.TheVariants.{No, Utf8}
use Rattle.text_coding.specs.declared.form.Loaded.{Loaded}
use Rattle.text_coding.specs.declared.form.DecodeError.{DecodeError}
use Rattle.text_coding.specs.declared.form.DecodeError.TheVariants.{NotUtf8, TextFull}
use Rattle.text_coding.specs.Coding.{utf8_mark, mark_of, bom_of, body, has_newline, each_returned, begins_newline, without_returns, with_returns, eol_of, from_form, to_form, text_from, fitting, loaded, saved}
use Rattle.text_coding.specs.Surveying.{last_of}
use Rattle.text_coding.proofs.FillLemmas.{last-append}
use Rattle.text_coding.proofs.FormLemmas.{ends-last, last-from}

and_left : (a b : Bool) → (a && b) ≡ true → a ≡ true
and_left true b e = refl
and_left false b e = e

and_right : (a b : Bool) → (a && b) ≡ true → b ≡ true
and_right true b e = e
and_right false b e = absurd (true≢false (sym e))

and_none : (a : Bool) → (a && false) ≡ false
and_none true = refl
and_none false = refl

-- a newline has a return before it
before-newline : (c : ℕ) (cs : List ℕ) → each_returned c cs ≡ true → begins_newline cs ≡ true → (c == 13) ≡ true
before-newline c [] each begins = absurd (true≢false (sym begins))
before-newline c (d ∷ cs) each begins =
    sym (ap (λ b. cond b (c == 13) true) begins) ∙ and_left (cond (d == 10) (c == 13) true) (each_returned d cs) each

-- what one character more is, where the rest comes again
again : (c : ℕ) (rest w : List ℕ) (n m : Bool) → (c == 10) ≡ m → (n ≡ true → (c == 13) ≡ true) → with_returns w ≡ cond n (13 ∷ rest) rest → with_returns (cond ((c == 13) && n) w (c ∷ w)) ≡ cond m (13 ∷ (c ∷ rest)) (c ∷ rest)
again c rest w true m ten returned inner =
    let is : c ≡ 13 = eqb-true c 13 (returned refl) in
    let not_ten : m ≡ false = sym ten ∙ ap (λ x. x == 10) is in
    ap (λ b. with_returns (cond (b && true) w (c ∷ w))) (returned refl) ∙ inner ∙ ap (λ x. x ∷ rest) (sym is)
    ∙ sym (ap (λ b. cond b (13 ∷ (c ∷ rest)) (c ∷ rest)) not_ten)
again c rest w false true ten returned inner =
    ap (λ b. with_returns (cond b w (c ∷ w))) (and_none (c == 13))
    ∙ ap (λ b. cond b (13 ∷ (10 ∷ with_returns w)) (c ∷ with_returns w)) ten
    ∙ ap (λ t. 13 ∷ (10 ∷ t)) inner ∙ ap (λ x. 13 ∷ (x ∷ rest)) (sym (eqb-true c 10 ten))
again c rest w false false ten returned inner =
    ap (λ b. with_returns (cond b w (c ∷ w))) (and_none (c == 13))
    ∙ ap (λ b. cond b (13 ∷ (10 ∷ with_returns w)) (c ∷ with_returns w)) ten
    ∙ ap (λ t. c ∷ t) inner

-- the returns that were taken out come again
returns-again : (b : ℕ) (cs : List ℕ) → each_returned b cs ≡ true → with_returns (without_returns cs) ≡ cond (begins_newline cs) (13 ∷ cs) cs
returns-again b [] each = refl
returns-again b (c ∷ cs) each =
    let rest : each_returned c cs ≡ true = and_right (cond (c == 10) (b == 13) true) (each_returned c cs) each in
    again c cs (without_returns cs) (begins_newline cs) (c == 10) refl (before-newline c cs rest) (returns-again c cs rest)

begins-other : (cs : List ℕ) (b : Bool) → begins_newline cs ≡ b → each_returned 0 cs ≡ true → b ≡ false
begins-other cs true begins each = absurd (true≢false (sym (before-newline 0 cs each begins)))
begins-other cs false begins each = refl

form-again : (cs : List ℕ) (b : Bool) → (b ≡ true → each_returned 0 cs ≡ true) → to_form (cond b Crlf Lf) (from_form (cond b Crlf Lf) cs) ≡ cs
form-again cs true each =
    returns-again 0 cs (each refl)
    ∙ ap (λ b. cond b (13 ∷ cs) cs) (begins-other cs (begins_newline cs) refl (each refl))
form-again cs false each = refl

-- the form that was found gives the characters again
pub forms-again : (cs : List ℕ) → to_form (eol_of cs) (from_form (eol_of cs) cs) ≡ cs
forms-again cs = form-again cs (has_newline cs && each_returned 0 cs) (and_right (has_newline cs) (each_returned 0 cs))

-- a character whose last byte is a newline is one
last-encode : (x c : ℕ) → last_of x (encode c) ≡ 10 → c ≡ 10
unfolding encode
last-encode x c last = by_size (ltb c 128) (ltb c 2048) (ltb c 65536) last where
  by_size : (p q r : Bool) → last_of x (cond p (c ∷ []) (cond q ((192 + c / 64) ∷ (128 + c % 64) ∷ []) (cond r ((224 + c / 4096) ∷ (128 + c / 64 % 64) ∷ (128 + c % 64) ∷ []) ((240 + c / 262144) ∷ (128 + c / 4096 % 64) ∷ (128 + c / 64 % 64) ∷ (128 + c % 64) ∷ [])))) ≡ 10 → c ≡ 10
  by_size true q r e = e
  by_size false true r e = absurd (omega (arith, e))
  by_size false false true e = absurd (omega (arith, e))
  by_size false false false e = absurd (omega (arith, e))

-- characters whose last byte is a newline end in one
text-ends : (cs : List ℕ) (x z : ℕ) → (x ≡ 10 → z ≡ 10) → last_of x (encode_utf8_all cs) ≡ 10 → last_of z cs ≡ 10
text-ends [] x z keeps last = keeps last
text-ends (c ∷ cs) x z keeps last = text-ends cs (last_of x (encode c)) c (last-encode x c) (sym (last-append x (encode c) (encode_utf8_all cs)) ∙ last)

whole-by : (bytes : List ℕ) (r : Bool) → starts_with nat_eq bytes utf8_mark ≡ r → mark_of (cond r Utf8 No) ++ drop (length (mark_of (cond r Utf8 No))) bytes ≡ bytes
whole-by bytes true starts = sym ((starts_is Decides-eqb bytes utf8_mark (starts_with nat_eq bytes utf8_mark) refl).0 starts)
whole-by bytes false starts = refl

-- bytes are their mark and what stands behind it
pub whole : (bytes : List ℕ) → mark_of (bom_of bytes) ++ body bytes ≡ bytes
whole bytes = whole-by bytes (starts_with nat_eq bytes utf8_mark) refl

mark-ends : (bom : Bom) → last_of 0 (mark_of bom) ≡ 10 → ◌≡◌ {A = ℕ} 0 10
mark-ends No e = e
mark-ends Utf8 e = absurd (omega (arith, e))

-- where bytes end in a newline, so do the characters
chars-end : (bytes : List ℕ) → IsUtf8 (body bytes) → ends_in_newline bytes ≡ true → last_of 0 (chars (body bytes)) ≡ 10
chars-end bytes utf8 ends =
    let last : last_of 0 bytes ≡ 10 = eqb-true (last_of 0 bytes) 10 (sym (ends-last bytes) ∙ ends) in
    let behind : last_of (last_of 0 (mark_of (bom_of bytes))) (body bytes) ≡ 10 = sym (ap (last_of 0) (sym (whole bytes)) ∙ last-append 0 (mark_of (bom_of bytes)) (body bytes)) ∙ last in
    text-ends (chars (body bytes)) (last_of 0 (mark_of (bom_of bytes))) 0 (mark-ends (bom_of bytes))
    (ap (last_of (last_of 0 (mark_of (bom_of bytes)))) (encodes-chars (body bytes) utf8) ∙ behind)

saved-again : (bytes : List ℕ) → IsUtf8 (body bytes) → ends_in_newline bytes ≡ true → saved (text_from (chars (body bytes))) (eol_of (chars (body bytes))) (bom_of bytes) ≡ bytes
saved-again bytes utf8 ends =
    let cs = chars (body bytes) in
    let last : ends_in_newline (from_form (eol_of cs) cs) ≡ true = ends-last (from_form (eol_of cs) cs) ∙ ap (λ n. n == 10) (last-from (eol_of cs) cs ∙ chars-end bytes utf8 ends) in
    ap (λ t. mark_of (bom_of bytes) ++ encode_utf8_all (to_form (eol_of cs) t)) (ended-text (from_form (eol_of cs) cs) last)
    ∙ ap (λ t. mark_of (bom_of bytes) ++ encode_utf8_all t) (forms-again cs)
    ∙ ap (λ t. mark_of (bom_of bytes) ++ t) (encodes-chars (body bytes) utf8)
    ∙ whole bytes

abbrev got : Loaded → Result Loaded DecodeError → Loaded
got l (Ok k) = k
got l (Err e) = l

from-fitting : (bytes : List ℕ) (l k : Loaded) (r : Bool) → saved k.text k.eol k.bom ≡ bytes → cond r (Ok k) (Err TextFull) ≡ Ok l → saved l.text l.eol l.bom ≡ bytes
from-fitting bytes l k true same e = let P : Loaded → Type 0 = λ x. saved x.text x.eol x.bom ≡ bytes in subst P (ap (got k) e) same
from-fitting bytes l k false same e = cc

from-loaded : (bytes : List ℕ) (l : Loaded) (n : ℕ) (r : Bool) → is_utf8 (body bytes) ≡ r → ends_in_newline bytes ≡ true
    → cond r (fitting (text_from (chars (body bytes))) (eol_of (chars (body bytes))) (bom_of bytes)) (Err (NotUtf8 n)) ≡ Ok l → saved l.text l.eol l.bom ≡ bytes
from-loaded bytes l n true utf8 ends e =
    from-fitting bytes l (record { text = text_from (chars (body bytes)); eol = eol_of (chars (body bytes)); bom = bom_of bytes }) (nat_le (length (text_from (chars (body bytes)))) MAX_CHARS)
    (saved-again bytes (IsUtf8-from_is_utf8 (body bytes) utf8) ends) e
from-loaded bytes l n false utf8 ends e = cc

-- saving what was loaded gives the bytes, where they end in a newline
pub saving : (bytes : List ℕ) (l : Loaded) → loaded bytes ≡ Ok l → ends_in_newline bytes ≡ true → saved l.text l.eol l.bom ≡ bytes
saving bytes l loads ends = from-loaded bytes l (length (mark_of (bom_of bytes)) + utf8_valid_len (body bytes)) (is_utf8 (body bytes)) refl ends loads
