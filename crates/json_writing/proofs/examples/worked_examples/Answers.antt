use Rattle.std.proofs.Common.{refl}
use Rattle.std.specs.Fmt.{digits}
use Rattle.std.proofs.Math.Utf8.{encode}
use Rattle.json_writing.proofs.examples.worked_examples.Goals as goal

pub returns : goal.returns
unfolding digits encode
returns c = record {
  first = refl;
  escapes = refl;
  controls = refl;
  two_bytes = refl;
  mixed_colour = refl;
  attributes = refl;
  hidden = refl;
  shown = refl;
  second_key = refl;
  too_long = refl;
  parse = refl;
  method = refl;
}
