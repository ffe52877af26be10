use Rattle.std.proofs.Common.{refl}
use Rattle.kak_app.proofs.examples.worked_examples.Goals as goal

pub returns : goal.returns
returns c = record {
  one_key = refl;
  no_keys = refl;
  goings_in_order = refl;
  two_keys = refl;
  gen_words = refl;
  nobody = refl;
  no_number = refl;
  client_words = refl;
  no_words = refl;
  each_kind = refl;
  other_order = refl;
  too_few = refl;
  too_many = refl;
  no_uis = refl;
  other_kind = refl;
  other_word = refl;
}
