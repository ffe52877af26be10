-- The examples hold by computation, with the table of widths open.
use Rattle.std.proofs.Common.{◌≡◌, [], ◌∷◌, refl, arith}
use Rattle.std.specs.Prelude.{decimal}
use Rattle.std.proofs.lemmas.Fmt.{decimal_digit}
use Rattle.unicode_width.proofs.Computing.{unicode_width}
use Rattle.kak_world.specs.Flat.{client_of, shown_of, buffer_of, list_of, own_of, text_of, sels_of, view_of, tabstop_of, rest_of, scoped_of, with_own, with_sels, with_corner, with_list_of, with_buffers, with_rest, with_scoped}
use Rattle.kak_engine.proofs.laws.mouse_examples.Goals as goal

pub returns : goal.returns
unfolding unicode_width client_of shown_of buffer_of list_of own_of text_of sels_of view_of tabstop_of rest_of scoped_of with_own with_sels with_corner with_list_of with_buffers with_rest with_scoped
returns c =
    let two : decimal 2 ≡ 50 ∷ [] = decimal_digit 2 (omega arith) in
    record {
      press_selects = refl;
      behind_the_number = rw two refl;
      on_the_number = rw two refl;
      other_stays = refl;
      step_is_over = refl;
      gives_nothing = refl;
      status_stays = refl;
      drag_goes_on = refl;
      key_ends_it = refl;
      let_go = refl;
      scrolls = refl;
      scrolled_gives_nothing = refl;
    }
