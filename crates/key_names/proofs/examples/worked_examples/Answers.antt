use Rattle.std.proofs.Common.{refl}
use Rattle.std.specs.Fmt.{digits}
use Rattle.key_names.proofs.examples.worked_examples.Goals as goal

pub returns : goal.returns
unfolding digits
returns c = record {
  nothing = refl;
  insert_hi = refl;
  quit = refl;
  no_such_name = refl;
  first_counts = refl;
  any_order = refl;
  twice = refl;
  modified_dash = refl;
  modifier_alone = refl;
  capital = refl;
  shifted_tab = refl;
  shifted_capital = refl;
  shifted_space = refl;
  named_characters = refl;
  raw_characters = refl;
  raw_newline = refl;
  raw_control = refl;
  unclosed_bracket = refl;
  bracket_inside = refl;
  empty_brackets = refl;
  newline_inside = refl;
  first_function_key = refl;
  last_function_key = refl;
  no_function_key = refl;
  leading_zero = refl;
  plain_letter = refl;
  space = refl;
  less = refl;
  all_modifiers = refl;
  controlled = refl;
  function_key = refl;
}
