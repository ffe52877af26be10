-- A word is a number exactly where std reads it as one.
use Rattle.std.proofs.Common.{◌≡◌, ℕ, ◌^◌, ◌<◌, ltb, ◌==◌, ◌&&◌, not, List, [], ◌∷◌, length, Bool, false, cond, Some, None, Result, Ok, Err, refl, ap, sym, ◌∙◌, arith}
use Rattle.std.specs.Prelude.{ℤ, pos, negsuc, FitsSigned, slice_index}
use Rattle.std.specs.Int.{w32}
use Rattle.std.specs.Bool.{Decides}
use Rattle.std.specs.List.{list_all}
use Rattle.std.specs.Char.{digit_value}
use Rattle.std.specs.Result.{OkIff, result_ok}
use Rattle.std.specs.Str.Parse.{AllDigits, IsNumeral, without_leading_sign, signed_digits_value}
use Rattle.std.proofs.lemmas.Bool.{false≢true, and_parts, and_from, ltb-true, lt-ltb}
use Rattle.std.proofs.lemmas.Result.{OkIff-at_ok, OkIff-at_err}
use Rattle.tables.proofs.TableLemmas.{by_test}
use Rattle.scope_options.specs.Values.{is_numeral, is_i32, int_of}

digits-decides : (ds : List ℕ) → Decides (list_all (λ c. ltb (digit_value c) 10) ds) (AllDigits 10 ds)
digits-decides [] = (λ _. tt, λ _. refl)
digits-decides (c ∷ cs) =
    let rest = digits-decides cs in (
      λ e. let parts = and_parts (ltb (digit_value c) 10) (list_all (λ d. ltb (digit_value d) 10) cs) e in (ltb-true (digit_value c) 10 parts.0, rest.0 parts.1),
      λ all. and_from (ltb (digit_value c) 10) (list_all (λ d. ltb (digit_value d) 10) cs) (lt-ltb (digit_value c) 10 all.0) (rest.1 all.1),
    )

numeral-decides : (ds : List ℕ) → Decides (is_numeral ds) (IsNumeral 10 ds)
numeral-decides [] = (λ e. absurd (false≢true e), λ n. absurd (omega (arith, n.0)))
numeral-decides (c ∷ cs) =
    let all = digits-decides (c ∷ cs) in
    let some : 0 < length (c ∷ cs) = omega arith in
    (λ e. (some, all.0 e), λ n. all.1 n.1)

fits-decides : (z : ℤ) → Decides (is_i32 z) (FitsSigned w32 z)
fits-decides (pos n) = (λ e. record { sfits = ltb-true n (2 ^ 31) e }, λ f. lt-ltb n (2 ^ 31) f.sfits)
fits-decides (negsuc n) = (λ e. record { sfits = ltb-true n (2 ^ 31) e }, λ f. lt-ltb n (2 ^ 31) f.sfits)

pub int_of-parsed : {E : Type 0} (word : List ℕ) (r : Result ℤ E) → (slice_index word 0 == 43) ≡ false → OkIff r (IsNumeral 10 (without_leading_sign word) × FitsSigned w32 (signed_digits_value 10 word)) (signed_digits_value 10 word) → result_ok r ≡ int_of word
int_of-parsed {E = E} word (Ok x) plain h =
    let v : ℤ = signed_digits_value 10 word in
    let both = OkIff-at_ok {E = E} (Ok x) (IsNumeral 10 (without_leading_sign word) × FitsSigned w32 v) v x h refl in
    let test = and_from (is_numeral (without_leading_sign word)) (is_i32 v) ((numeral-decides (without_leading_sign word)).1 both.0.0) ((fits-decides v).1 both.0.1) in
    ap Some both.1
    ∙ sym (ap (λ b. cond (not b && (is_numeral (without_leading_sign word) && is_i32 v)) (Some v) None) plain ∙ ap (λ b. cond b (Some v) None) test)
int_of-parsed {E = E} word (Err e) plain h =
    let v : ℤ = signed_digits_value 10 word in
    let refused = OkIff-at_err {E = E} (Err e) (IsNumeral 10 (without_leading_sign word) × FitsSigned w32 v) v e h refl in
    let test : Bool = is_numeral (without_leading_sign word) && is_i32 v in
    let no_value : cond test (Some v) None ≡ None = by_test (λ b. cond b (Some v) None ≡ None) test
    (λ e. let parts = and_parts (is_numeral (without_leading_sign word)) (is_i32 v) e in absurd (refused ((numeral-decides (without_leading_sign word)).0 parts.0, (fits-decides v).0 parts.1)))
    (λ _. refl) in
    sym (ap (λ b. cond (not b && test) (Some v) None) plain ∙ no_value)
