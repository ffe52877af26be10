use Rattle.std.proofs.Common.{refl}
use Rattle.std.specs.Str.{chars, is_utf8}
use Rattle.std.specs.Str.Lossy.{utf8_valid_len}
use Rattle.std.specs.Char.{encode_utf8}
use Rattle.text_coding.proofs.laws.worked_examples.Goals as goal

pub returns : goal.returns
unfolding chars is_utf8 utf8_valid_len encode_utf8
returns c = record {
  both = refl;
  both_saved = refl;
  plain = refl;
  bad = refl;
  bad_behind_mark = refl;
  not_whole = refl;
  no_mark = refl;
  mixed = refl;
  return_alone = refl;
  two_returns = refl;
  no_newline = refl;
  return_at_end = refl;
  empty = refl;
  mark_alone = refl;
}
