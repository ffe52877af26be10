-- Values, and the whole numbers that they are.
use Rattle.std.specs.Prelude.{◌≡◌, ℕ, ℤ, pos, negsuc, List, Some, None, Option, option_and_then, codes}
use Rattle.serde_json.specs.Read.{read}
use Rattle.json_ui.specs.Methods.{whole_of, signed_of}

-- the whole number of a text
abbrev pub whole : List ℕ → Option ℕ
whole text = option_and_then whole_of (read text)

-- the same with a sign
abbrev pub signed : List ℕ → Option ℤ
signed text = option_and_then signed_of (read text)

pub record NumberExamples : Type 0 where
  pub fraction : whole (codes "1.0") ≡ None
  pub signed_fraction : signed (codes "1.0") ≡ None
  pub exponent : whole (codes "1e0") ≡ None
  pub signed_exponent : signed (codes "1e0") ≡ None
  pub minus_zero : whole (codes "-0") ≡ None
  pub signed_minus_zero : signed (codes "-0") ≡ None
  pub below_zero : whole (codes "-1") ≡ None
  pub signed_below_zero : signed (codes "-1") ≡ Some (negsuc 0)
  pub zero : whole (codes "0") ≡ Some 0
  pub signed_zero : signed (codes "0") ≡ Some (pos 0)
  -- 2^32
  pub of_32_bits : whole (codes "4294967296") ≡ Some 4294967296
  -- 2^63
  pub of_63_bits : whole (codes "9223372036854775808") ≡ Some 9223372036854775808
  pub signed_of_63_bits : signed (codes "9223372036854775808") ≡ None
  pub most_signed : signed (codes "9223372036854775807") ≡ Some (pos 9223372036854775807)
  -- -2^63, and the number below it
  pub least_signed : signed (codes "-9223372036854775808") ≡ Some (negsuc 9223372036854775807)
  pub less : signed (codes "-9223372036854775809") ≡ None
  -- 2^64
  pub of_64_bits : whole (codes "18446744073709551616") ≡ None
  pub most : whole (codes "18446744073709551615") ≡ Some 18446744073709551615
  pub no_number : whole (codes "\"1\"") ≡ None
