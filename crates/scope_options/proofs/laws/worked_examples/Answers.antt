use Rattle.std.proofs.Common.{refl}
use Rattle.scope_options.proofs.laws.worked_examples.Goals as goal

pub returns : goal.returns
returns c = record {
  leading_zeros = refl;
  minus_zero = refl;
  greatest = refl;
  too_great = refl;
  least = refl;
  too_small = refl;
  plus = refl;
  minus_alone = refl;
  no_digits = refl;
  letter = refl;
  no_word = refl;
  two_words = refl;
  yes_is_no_truth = refl;
  empty_list = refl;
  in_window = refl;
  in_another_window = refl;
  in_another_buffer = refl;
  not_declared = refl;
  window_is_gone = refl;
  declared = refl;
  keeps_its_value = refl;
  other_type = refl;
  bad_type = refl;
  bad_type_again = refl;
  set_in_buffer = refl;
  no_option = refl;
  no_number = refl;
  tabstop_of_none = refl;
  tabstop_too_wide = refl;
  indentwidth_of_none = refl;
  other_format = refl;
  other_mark = refl;
  sum_in_window = refl;
  sum_too_great = refl;
  sum_past_32_bits = refl;
  joined = refl;
  appended = refl;
  truth_added = refl;
  unset = refl;
  unset_no_option = refl;
  unset_globally = refl;
}
