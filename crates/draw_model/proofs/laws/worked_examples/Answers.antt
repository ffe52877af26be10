-- The examples hold by computation, with the table of widths open.
use Rattle.std.proofs.Common.{◌≡◌, [], ◌∷◌, refl, arith}
use Rattle.std.specs.Prelude.{decimal}
use Rattle.std.proofs.lemmas.Fmt.{decimal_digit}
use Rattle.unicode_width.proofs.Computing.{unicode_width}
use Rattle.kak_world.specs.Flat.{client_of, shown_of, buffer_of, list_of, own_of, number_of, name_of, text_of, sels_of, view_of, tabstop_of, indentwidth_of, with_own, with_list_of, with_sels, with_corner, with_rest, with_scoped, joined_by, rest_of, scoped_of}
use Rattle.face_texts.specs.Palettes.{palette_of}
use Rattle.draw_model.specs.Drawings.{drawing_of}
use Rattle.draw_model.specs.Examples.{PlaceExamples, BoxExamples, ShownExamples}
use Rattle.draw_model.proofs.laws.worked_examples.Goals as goal

places : PlaceExamples
unfolding unicode_width client_of shown_of buffer_of list_of own_of number_of name_of text_of sels_of view_of tabstop_of indentwidth_of rest_of scoped_of with_own with_list_of with_sels with_corner with_rest with_scoped joined_by palette_of
places = search

boxes : BoxExamples
boxes = search

shown : ShownExamples
unfolding drawing_of unicode_width client_of shown_of buffer_of list_of own_of number_of name_of text_of sels_of view_of tabstop_of indentwidth_of rest_of scoped_of with_own with_list_of with_sels with_corner with_rest with_scoped joined_by palette_of
shown =
    let one : decimal 1 ≡ 49 ∷ [] = decimal_digit 1 (omega arith) in
    record {
      a_box = refl;
      told_once = refl;
      gone_once = refl;
      gone_before = refl;
      numbered = rw (one) refl;
      numbered_cursor = rw (one) refl;
      filled = refl;
      signed = refl;
      others = refl;
      followed_behind_numbers = rw (one) refl;
      other_status = refl;
      other_padding = refl;
    }

pub returns : goal.returns
unfolding drawing_of unicode_width client_of shown_of buffer_of list_of own_of number_of name_of text_of sels_of view_of tabstop_of indentwidth_of rest_of scoped_of with_own with_list_of with_sels with_corner with_rest with_scoped joined_by palette_of
returns c =
    let zero : decimal 0 ≡ 48 ∷ [] = decimal_digit 0 (omega arith) in
    let one : decimal 1 ≡ 49 ∷ [] = decimal_digit 1 (omega arith) in
    let two : decimal 2 ≡ 50 ∷ [] = decimal_digit 2 (omega arith) in
    let three : decimal 3 ≡ 51 ∷ [] = decimal_digit 3 (omega arith) in
    record {
      places = places;
      boxes = boxes;
      shown = shown;
      opened_world = rw (one, zero) refl;
      drawn_before = refl;
      nothing_said = refl;
      said = refl;
      refused = refl;
      prompt = refl;
      empty_prompt = refl;
      prompt_for_a_pattern = refl;
      names = refl;
      cursor_of_a_pattern = refl;
      cursor_inside_a_prompt = refl;
      cursor_at_its_start = refl;
      cursor_on_the_last = refl;
      cursor_of_prompt = refl;
      cursor_before_the_end = refl;
      cursor_in_window = refl;
      cursor_behind_numbers = refl;
      mode_of_second = rw (two) refl;
      followed_world = refl;
      mode_of_three = rw (two, one, three) refl;
    }
