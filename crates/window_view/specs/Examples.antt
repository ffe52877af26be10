-- Worked examples of following, which hold by computation.
use Rattle.std.specs.Prelude.{◌≡◌, ℕ}
use Rattle.kak_text.specs.declared.widths.TheConstants.{MAX_TABSTOP}
use Rattle.window_view.specs.declared.size.TheConstants.{MAX_SIDE}
use Rattle.window_view.specs.View.{View, followed}
use Rattle.window_view.specs.Sizes.{sized, first_size, view_at, first_corner}

-- a window of 3 rows and 10 columns
abbrev pub small : ℕ → ℕ → View
small top left = record { top = top; left = left; rows = 3; columns = 10 }

pub record Examples : Type 0 where
  -- the greatest distance of tab stops
  pub tab_stops : MAX_TABSTOP ≡ 64
  pub inside_stays : followed (small 4 5) 6 14 1 0 ≡ small 4 5
  pub below_comes_last : followed (small 4 5) 7 5 1 0 ≡ small 5 5
  pub above_comes_first : followed (small 4 5) 2 5 1 0 ≡ small 2 5
  pub right_comes_last : followed (small 0 0) 0 10 1 0 ≡ small 0 1
  pub left_comes_first : followed (small 0 5) 0 3 1 0 ≡ small 0 3
  pub wide_is_whole : followed (small 0 0) 0 9 2 0 ≡ small 0 1
  pub without_cells_counts_one : followed (small 0 0) 0 10 0 0 ≡ small 0 1
  -- a gutter takes columns from the text, but leaves one
  pub gutter_narrows : followed (small 0 0) 0 8 1 2 ≡ small 0 1
  pub gutter_fills : followed (small 0 0) 0 4 1 12 ≡ small 0 4
  -- a cursor wider than the part has its first cell at the left
  pub too_wide : followed (small 0 0) 0 4 8 9 ≡ small 0 4
  -- any number is brought into 1 to 1,000
  pub most : MAX_SIDE ≡ 1000
  pub none_is_one : sized 0 80 ≡ record { rows = 1; columns = 80 }
  pub most_stays : sized 24 1000 ≡ record { rows = 24; columns = 1000 }
  pub more_is_most : sized 65535 1001 ≡ record { rows = 1000; columns = 1000 }
  pub first_stays : sized 24 80 ≡ first_size
  pub first_window : view_at first_corner first_size ≡ record { top = 0; left = 0; rows = 24; columns = 80 }
