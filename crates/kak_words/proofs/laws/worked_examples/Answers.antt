use Rattle.std.proofs.Common.{refl}
use Rattle.std.specs.Char.Unicode.Alphabetic.{is_alphabetic, alphabetic_ranges}
use Rattle.std.specs.Char.Unicode.Numeric.{is_numeric, numeric_ranges}
use Rattle.std.specs.Char.Unicode.Rows.{in_ranges}
use lib.Utf8.{encode}
use Rattle.kak_words.proofs.laws.worked_examples.Goals as goal

pub returns : goal.returns
unfolding encode is_alphabetic alphabetic_ranges is_numeric numeric_ranges in_ranges
returns c = record {
  nothing = refl;
  quoted_words = refl;
  two_commands = refl;
  comment = refl;
  comment_behind_semicolon = refl;
  next_word = refl;
  next_word_behind_form = refl;
  no_break_space = refl;
  bar = refl;
  semicolon_mark = refl;
  percent_mark = refl;
  expansion_of_bars = refl;
  other_brackets = refl;
  percent_digit = refl;
  percent_letters = refl;
  percent_alone = refl;
  percent_inside = refl;
  escaped_blank = refl;
  escaped_opening = refl;
  escaped_newline = refl;
  other_backslashes = refl;
  quoted_expansion = refl;
  quoted_percent = refl;
  quoted_nameless = refl;
  quote_in_name = refl;
  quote_is_no_mark = refl;
  no_text = refl;
  unclosed_form = refl;
  unclosed_mark = refl;
  unclosed_single = refl;
  unclosed_double = refl;
  unclosed_inside = refl;
  unclosed_by_quote = refl;
  first_unclosed = refl;
  wide_characters = refl;
  several_words = refl;
  no_words = refl;
  one_word = refl;
  empty_word = refl;
  unknown_kind = refl;
  quoted_text = refl;
  read_back = refl;
}
