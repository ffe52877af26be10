use Rattle.std.proofs.Common.{refl}
use Rattle.selection_texts.proofs.laws.worked_examples.Goals as goal

pub returns : goal.returns
returns c = record {
  bytes_before_it = refl;
  characters_before_it = refl;
  on_the_second_line = refl;
  anchor_first = refl;
  main_first = refl;
  first_byte_of_it = refl;
  inside_of_it = refl;
  behind_it = refl;
  by_characters = refl;
  line_too_great = refl;
  byte_too_great = refl;
  character_too_great = refl;
  back = refl;
  one_character = refl;
  first_is_main = refl;
}
