-- What becomes of a list of which the main selection alone is kept.
use Rattle.std.specs.Prelude.{ℕ, List, [], ◌∷◌}
use Rattle.text_model.specs.Texts.{coord_at, line_count}
use Rattle.list_model.specs.Ranges.{Selected, anchor, cursor}
use Rattle.selection_set.specs.Listing.{range_between}
use Rattle.selection_set.specs.Held.{main_of}
use Rattle.window_view.specs.View.{View}
use Rattle.motion_keys.specs.Motions.{aim, landed}
use Rattle.pointer_rows.specs.Windows.{nearest_shown}

-- the main selection alone, which goes from its anchor to a character from now on
abbrev pub extended : ℕ → Selected → Selected
extended o sels = record { list = range_between (anchor (main_of sels)) o ∷ []; main = 0 }

-- the line of the main cursor
abbrev pub main_line : List ℕ → Selected → ℕ
main_line text sels = (coord_at text (cursor (main_of sels))).line

-- where a vertical move of the main selection arrives on the nearest line that a window shows, alone
abbrev pub brought_in : List ℕ → View → ℕ → Selected → Selected
brought_in text view tabstop sels = record {
  list = landed text (aim text (main_of sels) tabstop) tabstop (nearest_shown (line_count text) view (main_line text sels)) ∷ [];
  main = 0;
}
