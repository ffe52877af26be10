-- Numbers that are read digit by digit.
use Rattle.std.proofs.Common.{◌≡◌, ℕ, ◌+◌, ◌-◌, ◌*◌, ◌<◌, ◌≤◌, ◌&&◌, min, List, [], ◌∷◌, length, drop, get_or, Bool, true, false, ◌==◌, cond, Option, Some, None, refl, ap, sym, ◌∙◌, arith}
use Rattle.std.specs.List.{list_all}
use Rattle.std.proofs.lemmas.Bool.{true≢false}
use Rattle.std.proofs.lemmas.List.{drop_more, drop_all}
use Rattle.command_forms.specs.Numbers.{greatest_number, is_digit, value_on, whole_on, whole_number}

-- a number, if all are digits
abbrev pub picked : Bool → ℕ → Option ℕ
picked digits n = cond digits (Some n) None

-- what is brought down to the greatest number on the way comes to the same
value-capped : (ds : List ℕ) (a b : ℕ) → min a greatest_number ≡ min b greatest_number → min (value_on a ds) greatest_number ≡ min (value_on b ds) greatest_number
value-capped [] a b h = h
value-capped (d ∷ ds) a b h = value-capped ds (a * 10 + (d - 48)) (b * 10 + (d - 48)) (omega arith)

number-step : (ds : List ℕ) (d n m : ℕ) → is_digit d ≡ true → min m greatest_number ≡ min (n * 10 + (d - 48)) greatest_number → whole_on n (d ∷ ds) ≡ whole_on m ds
number-step ds d n m digit now =
    ap (λ b. picked (b && list_all is_digit ds) (min (value_on (n * 10 + (d - 48)) ds) greatest_number)) digit
    ∙ ap (picked (list_all is_digit ds)) (value-capped ds (n * 10 + (d - 48)) m (sym now))

pub number-more : (xs : List ℕ) (i d n m : ℕ) (all : Option ℕ) → i < length xs → d ≡ get_or xs i 0 → is_digit d ≡ true → min m greatest_number ≡ min (n * 10 + (d - 48)) greatest_number → whole_on n (drop i xs) ≡ all → whole_on m (drop (i + 1) xs) ≡ all
number-more xs i d n m all inside here digit now h =
    sym (number-step (drop (i + 1) xs) d n m digit now)
    ∙ ap (λ x. whole_on n (x ∷ drop (i + 1) xs)) here ∙ ap (whole_on n) (sym (drop_more xs i 0 inside)) ∙ h

pub number-end : (xs : List ℕ) (i n : ℕ) → length xs ≤ i → n ≤ greatest_number → whole_on n (drop i xs) ≡ Some n
number-end xs i n past small =
    let whole : min n greatest_number ≡ n = omega arith in
    ap (whole_on n) (drop_all i xs past) ∙ ap (λ m. Some m) whole

-- digits that are there
pub whole-some : (xs : List ℕ) → (length xs == 0) ≡ false → whole_number xs ≡ whole_on 0 xs
whole-some [] h = absurd (true≢false h)
whole-some (x ∷ xs) h = refl
