-- The definitions at given texts.
use Rattle.std.specs.Prelude.{◌≡◌, ℕ, List, [], ◌∷◌, true, false, None}
use Rattle.list_model.specs.Ranges.{Range, only}
use Rattle.command_forms.specs.declared.places.Columns.TheVariants.{Bytes, Characters}
use Rattle.command_forms.specs.declared.places.ArgumentPlace.{ArgumentPlace}
use Rattle.command_forms.specs.declared.places.Described.{Described}
use Rattle.selection_texts.specs.Telling.{place_told, told, from_main}
use Rattle.selection_texts.specs.Meaning.{offset_meant, meant, list_meant}

-- the lines `aéb` and `cd`
abbrev pub text : List ℕ
text = 97 ∷ 233 ∷ 98 ∷ 10 ∷ 99 ∷ 100 ∷ 10 ∷ []

abbrev pub argument_place : ℕ → ℕ → ArgumentPlace
argument_place line column = record { line = line; column = column }

abbrev pub told_from_to : ArgumentPlace → ArgumentPlace → Described
told_from_to anchor cursor = record { anchor = anchor; cursor = cursor }

-- a selection, turned
abbrev pub turned : ℕ → ℕ → Range
turned low high = record { low = low; high = high; turned = true; target = None }

abbrev pub straight : ℕ → ℕ → Range
straight low high = record { low = low; high = high; turned = false; target = None }

-- the table of examples
pub record WorkedExamples : Type 0 where
  -- telling
  pub bytes_before_it : place_told Bytes text 2 ≡ argument_place 1 4
  pub characters_before_it : place_told Characters text 2 ≡ argument_place 1 3
  pub on_the_second_line : place_told Bytes text 5 ≡ argument_place 2 2
  pub anchor_first : told Bytes text (turned 2 5) ≡ told_from_to (argument_place 2 2) (argument_place 1 4)
  pub main_first : from_main (record { list = only 0 ∷ only 1 ∷ only 2 ∷ []; main = 1 }) ≡ only 1 ∷ only 2 ∷ only 0 ∷ []
  -- meaning
  pub first_byte_of_it : offset_meant Bytes text (argument_place 1 2) ≡ 1
  pub inside_of_it : offset_meant Bytes text (argument_place 1 3) ≡ 1
  pub behind_it : offset_meant Bytes text (argument_place 1 4) ≡ 2
  pub by_characters : offset_meant Characters text (argument_place 1 3) ≡ 2
  pub line_too_great : offset_meant Bytes text (argument_place 9 1) ≡ 4
  pub byte_too_great : offset_meant Bytes text (argument_place 1 99) ≡ 3
  pub character_too_great : offset_meant Characters text (argument_place 9 99) ≡ 6
  pub back : meant Bytes text (told_from_to (argument_place 2 2) (argument_place 1 4)) ≡ turned 2 5
  pub one_character : meant Bytes text (told_from_to (argument_place 1 2) (argument_place 1 3)) ≡ only 1
  -- the first is the main one, wherever it stands
  pub first_is_main : list_meant Bytes text (told_from_to (argument_place 2 1) (argument_place 2 1) ∷ told_from_to (argument_place 1 1) (argument_place 1 2) ∷ []) ≡ record { list = straight 0 1 ∷ only 4 ∷ []; main = 1 }
