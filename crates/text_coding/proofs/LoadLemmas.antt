-- What bytes are loaded as, by what was found of them.
use Rattle.std.proofs.Common.{◌≡◌, ℕ, ◌+◌, ◌<◌, ◌≤◌, Bool, true, false, cond, List, length, Result, Ok, Err, IsOk, nat_le, refl, sym, ap, ◌∙◌, subst, arith, IsUtf8, chars}
use Rattle.std.specs.Str.{is_utf8}
use Rattle.std.specs.Str.Lossy.{utf8_valid_len}
use Rattle.std.proofs.lemmas.Str.{is_utf8-from_IsUtf8, IsUtf8-from_is_utf8}
use Rattle.std.proofs.lemmas.Bool.{le-leb}
use Rattle.std.proofs.lemmas.Bool.Decides.{nat_tests}
use Rattle.text_model.specs.declared.TheConstants.{MAX_CHARS}
use Rattle.text_model.specs.Changes.{ended}
use Rattle.text_coding.specs.declared.form.Eol.{Eol}
use Rattle.text_coding.specs.declared.form.Bom.{Bom}
use Rattle.text_coding.specs.declared.form.Loaded.{Loaded}
use Rattle.text_coding.specs.declared.form.DecodeError.{DecodeError}
use Rattle.text_coding.specs.declared.form.DecodeError.TheVariants.{NotUtf8, TextFull}
use Rattle.text_coding.specs.Coding.{mark_of, bom_of, body, eol_of, from_form, text_from, fitting, loaded, IsDecoded}

fits : (text : List ℕ) → length text ≤ MAX_CHARS → nat_le (length text) MAX_CHARS ≡ true
fits text le = le-leb (length text) MAX_CHARS le

not_less : (a b : ℕ) → b < a → nat_le a b ≡ false
not_less a b less = grind (arith, nat_tests)

pub fitting-full : (cs : List ℕ) (eol : Eol) (bom : Bom) (n : ℕ) → eol ≡ eol_of cs → n ≡ length (ended (from_form eol cs)) → MAX_CHARS < n → Err TextFull ≡ fitting (text_from cs) (eol_of cs) bom
fitting-full cs eol bom n form count full =
    let long : MAX_CHARS < length (text_from cs) = omega (arith, count, full, ap (λ e. length (ended (from_form e cs))) form) in
    sym (ap (λ b. cond b (Ok (record { text = text_from cs; eol = eol_of cs; bom = bom })) (Err TextFull)) (not_less (length (text_from cs)) MAX_CHARS long))

pub fitting-some : (cs : List ℕ) (eol : Eol) (bom : Bom) (n : ℕ) → eol ≡ eol_of cs → n ≡ length (ended (from_form eol cs)) → n ≤ MAX_CHARS → fitting (text_from cs) (eol_of cs) bom ≡ Ok (record { text = text_from cs; eol = eol_of cs; bom = bom })
fitting-some cs eol bom n form count few =
    let short : length (text_from cs) ≤ MAX_CHARS = omega (arith, count, few, ap (λ e. length (ended (from_form e cs))) form) in
    ap (λ b. cond b (Ok (record { text = text_from cs; eol = eol_of cs; bom = bom })) (Err TextFull)) (fits (text_from cs) short)

pub fitting-ok : (cs : List ℕ) (eol : Eol) (bom : Bom) (n : ℕ) → eol ≡ eol_of cs → n ≡ length (ended (from_form eol cs)) → n ≤ MAX_CHARS → IsOk (fitting (text_from cs) (eol_of cs) bom)
fitting-ok cs eol bom n form count few = let P : Result Loaded DecodeError → Type 0 = λ r. IsOk r in subst P (sym (fitting-some cs eol bom n form count few)) refl

-- what bytes are loaded as, where they are UTF-8 and where they aren't
pub loaded-text : (bytes text : List ℕ) (bom : Bom) (r : Result Loaded DecodeError) → text ≡ body bytes → IsUtf8 text → bom ≡ bom_of bytes → IsDecoded r (fitting (text_from (chars text)) (eol_of (chars text)) bom) → IsDecoded r (loaded bytes)
loaded-text bytes text bom r here utf8 mark decoded =
    let read : Result Loaded DecodeError = fitting (text_from (chars (body bytes))) (eol_of (chars (body bytes))) (bom_of bytes) in
    let other : Result Loaded DecodeError = Err (NotUtf8 (length (mark_of (bom_of bytes)) + utf8_valid_len (body bytes))) in
    let is : is_utf8 (body bytes) ≡ true = is_utf8-from_IsUtf8 (body bytes) (subst IsUtf8 here utf8) in
    let same : fitting (text_from (chars text)) (eol_of (chars text)) bom ≡ loaded bytes =
    ap (λ t. fitting (text_from (chars t)) (eol_of (chars t)) bom) here
    ∙ ap (λ m. fitting (text_from (chars (body bytes))) (eol_of (chars (body bytes))) m) mark
    ∙ sym (ap (λ b. cond b read other) is) in
    let P : Result Loaded DecodeError → Type 0 = λ m. IsDecoded r m in
    subst P same decoded

not_true : (b : Bool) → ¬ (b ≡ true) → b ≡ false
not_true true never = absurd (never refl)
not_true false never = refl

pub loaded-not : (bytes text : List ℕ) (m n : ℕ) → text ≡ body bytes → ¬ (IsUtf8 text) → m ≡ length (mark_of (bom_of bytes)) → n ≡ utf8_valid_len text → Err (NotUtf8 (m + n)) ≡ loaded bytes
loaded-not bytes text m n here never mark valid =
    let read : Result Loaded DecodeError = fitting (text_from (chars (body bytes))) (eol_of (chars (body bytes))) (bom_of bytes) in
    let other : Result Loaded DecodeError = Err (NotUtf8 (length (mark_of (bom_of bytes)) + utf8_valid_len (body bytes))) in
    let isnt : is_utf8 (body bytes) ≡ false = not_true (is_utf8 (body bytes)) (λ is. never (subst IsUtf8 (sym here) (IsUtf8-from_is_utf8 (body bytes) is))) in
    ap (λ k. Err (NotUtf8 (k + n))) mark
    ∙ ap (λ k. Err (NotUtf8 (length (mark_of (bom_of bytes)) + k))) (valid ∙ ap utf8_valid_len here)
    ∙ sym (ap (λ b. cond b read other) isnt)
