use Rattle.std.proofs.Common.{refl}
use Rattle.std.specs.Str.{chars, is_utf8}
use Rattle.std.proofs.Math.Utf8.{encode}
use Rattle.serde_json.proofs.OnLiterals.{serde_json_on_literals}
use Rattle.json_ui.proofs.examples.number_examples.Goals as goal

pub returns : goal.returns
unfolding chars is_utf8 encode serde_json_on_literals
returns c = record {
  fraction = refl;
  signed_fraction = refl;
  exponent = refl;
  signed_exponent = refl;
  minus_zero = refl;
  signed_minus_zero = refl;
  below_zero = refl;
  signed_below_zero = refl;
  zero = refl;
  signed_zero = refl;
  of_32_bits = refl;
  of_63_bits = refl;
  signed_of_63_bits = refl;
  most_signed = refl;
  least_signed = refl;
  less = refl;
  of_64_bits = refl;
  most = refl;
  no_number = refl;
}
