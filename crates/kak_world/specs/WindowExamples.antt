-- Worked examples of windows, which hold by computation: a client has one size, and each of its buffers a corner.
use Rattle.std.specs.Prelude.{◌≡◌}
use Rattle.window_view.specs.Sizes.{sized}
use Rattle.kak_world.specs.Flat.{Flat, view_of, with_own, with_corner}
use Rattle.kak_world.specs.Showing.{shows}
use Rattle.kak_world.specs.ShowingExamples.{with_a}

-- of the clients 7 and 9 on one buffer, 7 has its window elsewhere, and then fewer rows and columns
abbrev pub moved : Flat
moved = with_corner 7 (record { top = 5; left = 2 }) with_a

abbrev pub resized : Flat
resized = with_own 7 (λ o. record o { size = sized 10 40 }) moved

pub record WindowExamples : Type 0 where
  pub first : view_of 7 with_a ≡ record { top = 0; left = 0; rows = 24; columns = 80 }
  pub stands_elsewhere : view_of 7 moved ≡ record { top = 5; left = 2; rows = 24; columns = 80 }
  pub size_alone_changes : view_of 7 resized ≡ record { top = 5; left = 2; rows = 10; columns = 40 }
  pub other_window_stays : view_of 9 resized ≡ record { top = 0; left = 0; rows = 24; columns = 80 }
  -- a window that is opened later has the size, and stands at the start of its text
  pub later_window_has_the_size : view_of 7 (shows 7 1 resized) ≡ record { top = 0; left = 0; rows = 10; columns = 40 }
  -- and the former one stands where it stood
  pub corner_there_stays : view_of 7 (shows 7 0 (shows 7 1 resized)) ≡ record { top = 5; left = 2; rows = 10; columns = 40 }
  -- also where the size changed meanwhile
  pub size_counts_on_each_buffer : view_of 7 (shows 7 0 (with_own 7 (λ o. record o { size = sized 3 1001 }) (shows 7 1 resized))) ≡ record { top = 5; left = 2; rows = 3; columns = 1000 }
