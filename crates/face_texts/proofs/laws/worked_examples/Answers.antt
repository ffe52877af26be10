use Rattle.std.proofs.Common.{refl}
use Rattle.std.specs.Str.{chars}
use lib.Utf8.{encode}
use Rattle.face_texts.specs.Colours.{word_colour, with_underline, with_ground, colours_of}
use Rattle.face_texts.specs.Letters.{with_final, with_letter, attributes_at}
use Rattle.face_texts.specs.Texts.{attributes_of, own_face, base_of, face_text_of}
use Rattle.face_texts.specs.Examples.{TextExamples, TableExamples}
use Rattle.face_texts.proofs.laws.worked_examples.Goals as goal

texts : TextExamples
unfolding encode word_colour with_underline with_ground colours_of with_final with_letter attributes_at attributes_of own_face base_of face_text_of
texts = record {
  one = refl;
  ground_alone = refl;
  missing_between = refl;
  nothing = refl;
  all_three = refl;
  amounts = refl;
  all_parts = refl;
  other_letters = refl;
  all_finals = refl;
  twice = refl;
  base_alone = refl;
  marks_in_base = refl;
  wide_base = refl;
  behind_comma = refl;
  behind_two = refl;
  comma_and_plus = refl;
  behind_plus = refl;
  plus_and_base = refl;
  behind_base = refl;
  third_comma = refl;
  four_colours = refl;
  no_colour = refl;
  capital = refl;
  bright_default = refl;
  five_digits = refl;
  seven_digits = refl;
  no_digit = refl;
  capital_mark = refl;
  no_letter = refl;
  comma_among_letters = refl;
  plus_among_letters = refl;
  colour_first = refl;
  letter_first = refl;
  wide_colour = refl;
  behind_wide = refl;
}

tables : TableExamples
unfolding chars word_colour with_underline with_ground colours_of with_final with_letter attributes_at attributes_of own_face base_of face_text_of
tables = record {
  given_face = refl;
  no_face = refl;
  counts_as_default = refl;
  unset_default = refl;
  over_base = refl;
  over_nothing = refl;
  later = refl;
  from_the_last = refl;
  set_again = refl;
  set_new = refl;
  itself = refl;
  two_of_them = refl;
  three_of_them = refl;
  set_word = refl;
  colour_word = refl;
  colour_name = refl;
  bad_word = refl;
}

pub returns : goal.returns
returns c = record { texts = texts; tables = tables }
