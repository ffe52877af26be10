-- The examples hold by computation, with the table of widths open.
use Rattle.std.proofs.Common.{refl}
use Rattle.unicode_width.proofs.Computing.{unicode_width}
use Rattle.kak_world.specs.Flat.{client_of, shown_of, buffer_of, list_of, own_of, text_of, sels_of, view_of, tabstop_of, rest_of, with_own, with_sels, with_corner, with_list_of, with_buffers}
use Rattle.pointer_rows.proofs.laws.pointing_examples.Goals as goal

pub returns : goal.returns
unfolding unicode_width client_of shown_of buffer_of list_of own_of text_of sels_of view_of tabstop_of rest_of with_own with_sels with_corner with_list_of with_buffers
returns c = record {
  press_selects = refl;
  press_begins_a_drag = refl;
  drag_extends = refl;
  release_ends_it = refl;
  where_it_was_released = refl;
  release_extends = refl;
  right_extends = refl;
  right_begins_no_drag = refl;
  right_ends_no_drag = refl;
  move_alone_does_nothing = refl;
  release_alone_does_nothing = refl;
  middle_does_nothing = refl;
  middle_released_does_nothing = refl;
  right_released_does_nothing = refl;
  other_client_stays = refl;
  others_go = refl;
  awaited_key_waits_on = refl;
  release_meanwhile_ends_no_drag = refl;
  insert_mode = refl;
  a_prompt = refl;
  count_stays = refl;
  count_waits_for_no_key = refl;
  behind_the_line = refl;
  below_the_text = refl;
  farthest = refl;
  last_cell_of_a_tab = refl;
  behind_a_tab = refl;
  second_cell = refl;
  behind_a_wide_one = refl;
  behind_a_combining_one = refl;
  lower_line = refl;
  further_right = refl;
  on_the_number = refl;
  behind_the_number = refl;
  further_behind_the_number = refl;
}
