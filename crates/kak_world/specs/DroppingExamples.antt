-- Worked examples of buffers that are dropped, which hold by computation.
use Rattle.std.specs.Prelude.{◌≡◌, true, false, [], ◌∷◌, codes, map, is_some}
use Rattle.list_shelf.specs.declared.holder.Holder.TheVariants.{Of}
use Rattle.kak_world.specs.Flat.{name_of, sels_of, with_sels}
use Rattle.kak_world.specs.Examples.{only_sel_at}
use Rattle.kak_world.specs.Showing.{shows, first_gap}
use Rattle.kak_world.specs.Dropping.{dropped}
use Rattle.kak_world.specs.ShowingExamples.{more, with_a, seen_a, back_again, holders_on}

pub record DroppingExamples : Type 0 where
  pub sees_the_least_one : name_of 7 (dropped 1 seen_a) ≡ codes "*scratch*"
  pub with_its_list_there : sels_of 7 (dropped 1 (shows 7 1 (with_sels 7 (only_sel_at 3) with_a))) ≡ only_sel_at 3
  pub its_list_is_gone : sels_of 7 (shows 7 1 (more (codes "b") (dropped 1 seen_a))) ≡ only_sel_at 0
  pub freed_number_is_taken_again : first_gap (dropped 0 (more (codes "b") with_a)).buffers ≡ 0
  pub viewers_of_the_first_move_on : map (λ c. c.shown) (dropped 0 seen_a).clients ≡ 1 ∷ 1 ∷ []
  pub they_begin_there : sels_of 9 (dropped 0 seen_a) ≡ only_sel_at 0
  pub or_have_their_list_there : sels_of 7 (dropped 0 back_again) ≡ only_sel_at 2
  pub last_one_is_made_again : name_of 9 (dropped 0 (shows 9 0 (dropped 1 seen_a))) ≡ codes "*scratch*"
  pub it_takes_zero : map is_some (dropped 1 (dropped 0 seen_a)).buffers ≡ true ∷ false ∷ []
  pub all_are_there : holders_on 0 (dropped 1 (dropped 0 seen_a)) ≡ Of 7 ∷ Of 9 ∷ []
