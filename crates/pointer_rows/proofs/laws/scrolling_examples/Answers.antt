-- The examples hold by computation, with the table of widths open.
use Rattle.std.proofs.Common.{refl}
use Rattle.unicode_width.proofs.Computing.{unicode_width}
use Rattle.kak_world.specs.Flat.{client_of, shown_of, buffer_of, list_of, own_of, text_of, sels_of, view_of, tabstop_of, rest_of, with_own, with_sels, with_corner, with_list_of, with_buffers}
use Rattle.pointer_rows.proofs.laws.scrolling_examples.Goals as goal

pub returns : goal.returns
unfolding unicode_width client_of shown_of buffer_of list_of own_of text_of sels_of view_of tabstop_of rest_of with_own with_sels with_corner with_list_of with_buffers
returns c = record {
  goes_on = refl;
  first_line_shown_is_selected = refl;
  goes_back = refl;
  stays_where_it_is_shown = refl;
  goes_to_the_last_line = refl;
  last_line_is_selected = refl;
  goes_back_to_the_first_line = refl;
  last_line_shown_is_selected = refl;
  farthest = refl;
  list_stays = refl;
  list_goes = refl;
  aims_on = refl;
  target_is_kept = refl;
  left_stays = refl;
  other_window_stays = refl;
  back_to_the_text = refl;
  awaited_key_waits_on = refl;
  insert_mode = refl;
  drag_goes_on = refl;
}
