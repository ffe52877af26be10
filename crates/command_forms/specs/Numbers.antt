-- Decimal numbers in words.
use Rattle.std.specs.Prelude.{ℕ, ◌+◌, ◌-◌, ◌*◌, ◌&&◌, Bool, List, [], ◌∷◌, min, nat_le, nat_lt, if◌then◌else◌, Option, Some, None, option_and_then}
use Rattle.std.specs.List.{list_all}

-- the greatest number, 2^32 - 1; greater ones mean it
abbrev pub greatest_number : ℕ
greatest_number = 4294967295

-- whether a byte is a decimal digit
abbrev pub is_digit : ℕ → Bool
is_digit d = nat_le 48 d && nat_le d 57

-- the number that digits behind those of a number make of it
abbrev pub value_on : ℕ → List ℕ → ℕ
value_on n [] = n
value_on n (d ∷ ds) = value_on (n * 10 + (d - 48)) ds

-- the number that a number and the digits behind it are; none where these aren't all digits
abbrev pub whole_on : ℕ → List ℕ → Option ℕ
whole_on n ds = if list_all is_digit ds then Some (min (value_on n ds) greatest_number) else None

-- the number that a text of digits is, one at least
abbrev pub whole_number : List ℕ → Option ℕ
whole_number [] = None
whole_number (d ∷ ds) = whole_on 0 (d ∷ ds)

-- the number that a text is, from 1 on
abbrev pub number_of : List ℕ → Option ℕ
number_of ds = option_and_then (λ n. if nat_lt 0 n then Some n else None) (whole_number ds)
