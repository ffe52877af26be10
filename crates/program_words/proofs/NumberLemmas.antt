-- A word is a number exactly where std reads it as one, and no plus stands in front.
use Rattle.std.proofs.Common.{◌≡◌, ℕ, zero, suc, ◌^◌, ◌<◌, ltb, ◌==◌, ◌&&◌, List, [], ◌∷◌, length, drop, Bool, true, false, cond, Some, None, Result, Ok, Err, refl, ap, sym, ◌∙◌, subst, arith}
use Rattle.std.specs.Prelude.{slice_index}
use Rattle.std.specs.Bool.{Decides}
use Rattle.std.specs.List.{list_all}
use Rattle.std.specs.Char.{digit_value}
use Rattle.std.specs.Result.{OkIff, result_ok}
use Rattle.std.specs.Str.Parse.{AllDigits, IsNumeral, ParsesUnsigned, without_leading_plus, digits_value}
use Rattle.std.proofs.lemmas.Bool.{false≢true, and_parts, and_from, eqb-true, ltb-true, lt-ltb}
use Rattle.program_words.specs.GenWords.{is_numeral, number_below, are_in_range}

digits-decides : (ds : List ℕ) → Decides (list_all (λ c. ltb (digit_value c) 10) ds) (AllDigits 10 ds)
digits-decides [] = (λ _. tt, λ _. refl)
digits-decides (c ∷ cs) =
    let rest = digits-decides cs in (
      λ e. let parts = and_parts (ltb (digit_value c) 10) (list_all (λ d. ltb (digit_value d) 10) cs) e in (ltb-true (digit_value c) 10 parts.0, rest.0 parts.1),
      λ all. and_from (ltb (digit_value c) 10) (list_all (λ d. ltb (digit_value d) 10) cs) (lt-ltb (digit_value c) 10 all.0) (rest.1 all.1),
    )

numeral-decides : (ds : List ℕ) → Decides (is_numeral ds) (IsNumeral 10 ds)
numeral-decides [] = (λ e. absurd (false≢true e), λ n. absurd (omega (arith, n.0)))
numeral-decides (c ∷ cs) =
    let all = digits-decides (c ∷ cs) in
    let some : 0 < length (c ∷ cs) = omega arith in
    (λ e. (some, all.0 e), λ n. all.1 n.1)

-- what is read of a word that has no plus to be left out
numeral-read : {E : Type 0} (bound : ℕ) (word : List ℕ) (r : Result ℕ E) → OkIff r (IsNumeral 10 word × (digits_value 10 word < bound)) (digits_value 10 word) → result_ok r ≡ number_below bound word
numeral-read bound word (Ok x) h =
    let v : ℕ = digits_value 10 word in
    let test = and_from (is_numeral word) (ltb v bound) ((numeral-decides word).1 h.0.0) (lt-ltb v bound h.0.1) in
    ap Some h.1 ∙ sym (ap (λ b. cond b (Some v) None) test)
numeral-read bound word (Err e) h = sym (by (is_numeral word && ltb (digits_value 10 word) bound) refl)
  where
    by : (t : Bool) → (is_numeral word && ltb (digits_value 10 word) bound) ≡ t → cond t (Some (digits_value 10 word)) None ≡ None
    by true e =
        let parts = and_parts (is_numeral word) (ltb (digits_value 10 word) bound) e in
        absurd (h ((numeral-decides word).0 parts.0, ltb-true (digits_value 10 word) bound parts.1))
    by false e = refl

pub number-parsed : {E : Type 0} (k : ℕ) (word : List ℕ) (r : Result ℕ E) → (slice_index word 0 == 43) ≡ false → ParsesUnsigned k 10 word r → result_ok r ≡ number_below (2 ^ k) word
number-parsed k word r plain h =
    let same : without_leading_plus word ≡ word = ap (λ b. drop (cond b 1 0) word) plain in
    numeral-read (2 ^ k) word r (subst (λ w. OkIff r (IsNumeral 10 w × (digits_value 10 w < 2 ^ k)) (digits_value 10 w)) same h)

-- a plus is no digit
pub plus-none : (bound : ℕ) (word : List ℕ) → (slice_index word 0 == 43) ≡ true → number_below bound word ≡ None
plus-none bound [] e = refl
plus-none bound (c ∷ cs) e = subst (λ d. number_below bound (d ∷ cs) ≡ None) (sym (eqb-true c 43 e)) refl

-- where there may be so many clients, there is one
pub some-client : (clients keys : ℕ) → are_in_range clients keys ≡ true → 0 < clients
some-client zero keys e = let no : false ≡ true = e in cc
some-client (suc n) keys e = omega arith
