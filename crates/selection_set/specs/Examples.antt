-- Worked examples of lists of selections, which hold by computation.
use Rattle.std.specs.Prelude.{◌≡◌, ℕ, true, false, None, Some, [], ◌∷◌, codes}
use Rattle.text_model.specs.declared.TheConstants.{MAX_SELECTIONS}
use Rattle.text_model.specs.declared.coords.Coord.{Coord}
use Rattle.list_model.specs.Ranges.{only}
use Rattle.list_model.specs.Settling.{settled}
use Rattle.selection_set.specs.declared.sel.Sel.{Sel}
use Rattle.selection_set.specs.declared.sel.Pair.{Pair}
use Rattle.selection_set.specs.Listing.{ranges_of, range_between, range_of_pair}
use Rattle.selection_set.specs.Sweeping.{swept_listed}

abbrev pub at : ℕ → ℕ → Coord
at line column = record { line = line; column = column }

-- a straight selection, and a turned one with a target
abbrev pub straight : Coord → Coord → Sel
straight low high = record { low = low; high = high; turned = false; target = None }

abbrev pub aimed_back : Coord → Coord → Sel
aimed_back low high = record { low = low; high = high; turned = true; target = Some 7 }

abbrev pub pair : Coord → Coord → Pair
pair anchor cursor = record { anchor = anchor; cursor = cursor }

pub record Examples : Type 0 where
  -- how many selections a list may have
  pub limit : MAX_SELECTIONS ≡ 262144
  -- a selection on a line and its copy on the line below
  pub ranges : ranges_of (codes "ab\nc\n") (straight (at 0 1) (at 0 1) ∷ straight (at 1 1) (at 1 1) ∷ []) ≡ only 1 ∷ only 4 ∷ []
  pub forward : range_between 1 4 ≡ record { low = 1; high = 4; turned = false; target = None }
  pub back : range_between 4 1 ≡ record { low = 1; high = 4; turned = true; target = None }
  pub one_character : range_between 3 3 ≡ only 3
  pub back_over_a_newline : range_of_pair (codes "ab\nc\n") (pair (at 1 0) (at 0 2)) ≡ record { low = 2; high = 3; turned = true; target = None }
  pub three_pairs : settled (record { list = range_between 5 3 ∷ range_between 1 3 ∷ range_between 4 4 ∷ []; main = 0 }) ≡ record { list = range_between 1 5 ∷ []; main = 0 }
  -- by coordinates: the last character of a line and the first of the next are apart
  pub touching_stay : swept_listed (record { list = straight (at 0 0) (at 0 2) ∷ straight (at 1 0) (at 1 1) ∷ []; main = 1 }) ≡ record { list = straight (at 0 0) (at 0 2) ∷ straight (at 1 0) (at 1 1) ∷ []; main = 1 }
  pub sharing_join : swept_listed (record { list = aimed_back (at 0 0) (at 1 0) ∷ straight (at 1 0) (at 1 1) ∷ []; main = 1 }) ≡ record { list = aimed_back (at 0 0) (at 1 1) ∷ []; main = 0 }
  pub inner_is_held : swept_listed (record { list = straight (at 0 0) (at 3 0) ∷ aimed_back (at 1 9) (at 2 9) ∷ straight (at 3 1) (at 3 1) ∷ []; main = 2 }) ≡ record { list = straight (at 0 0) (at 3 0) ∷ straight (at 3 1) (at 3 1) ∷ []; main = 1 }
