use Rattle.std.proofs.Common.{refl}
use lib.Utf8.{encode}
use Rattle.ui_board.proofs.laws.worked_examples.Goals as goal

pub returns : goal.returns
unfolding encode
returns c = record {
  json = refl;
  silent = refl;
  screen = refl;
  last_drawing = refl;
  no_drawing = refl;
  no_lines = refl;
  what_was_told = refl;
  free = refl;
  taken = refl;
  no_seat = refl;
  first_free = refl;
  into_the_gap = refl;
  none_is_free = refl;
  behind_the_last = refl;
  left = refl;
  report = refl;
  no_report = refl;
}
