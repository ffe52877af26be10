use Rattle.std.proofs.Common.{refl}
use Rattle.std.specs.Str.{chars, is_utf8}
use Rattle.std.proofs.Math.Utf8.{encode}
use Rattle.serde_json.proofs.OnLiterals.{serde_json_on_literals}
use Rattle.json_ui.proofs.examples.read_examples.Goals as goal

pub returns : goal.returns
unfolding chars is_utf8 encode serde_json_on_literals
returns c = record {
  spaced = refl;
  no_byte = refl;
  blanks = refl;
  unclosed = refl;
  not_utf8 = refl;
  an_array = refl;
  other_version = refl;
  no_method = refl;
  method_number = refl;
  other_method = refl;
  missing = refl;
  null_parameters = refl;
  last_counts = refl;
  second_key = refl;
  no_string = refl;
  size = refl;
  least_and_most = refl;
  no_size = refl;
  one_number = refl;
  three_numbers = refl;
  below_zero = refl;
  number_in_quotes = refl;
  no_array = refl;
  on = refl;
  back_at_a_place = refl;
  scrolled_by_nothing = refl;
  half_a_place = refl;
  place_below_zero = refl;
  four_numbers = refl;
  most_lines_on = refl;
  too_many_on = refl;
  most_lines_back = refl;
  too_many_back = refl;
  lines_with_an_exponent = refl;
  moved = refl;
  line_too_large = refl;
  no_column = refl;
  moved_with_a_button = refl;
  pressed = refl;
  left_pressed = refl;
  pressed_nowhere = refl;
  other_button = refl;
  button_last = refl;
  released = refl;
  left_released = refl;
  column_minus_zero = refl;
  item = refl;
  item_below_zero = refl;
  last_item = refl;
  no_item = refl;
  two_items = refl;
  half_an_item = refl;
  item_missing = refl;
}
