-- Searching from selections on by coordinates: lists that a search goes over once.
use Rattle.std.specs.Prelude.{◌≡◌, Bool, true, false, not, if◌then◌else◌, List, [], ◌∷◌, ◌++◌, filter}
use Rattle.std.specs.List.{AllByRecursion}
use Rattle.text_model.specs.Coords.{is_at_most}
use Rattle.selection_set.specs.declared.sel.Sel.{Sel}
use Rattle.selection_set.specs.Inside.{anchor_at}
use Rattle.selection_set.specs.Listing.{sel_of_pair}
use Rattle.directions.specs.declared.direction.Direction.{Direction}
use Rattle.directions.specs.declared.direction.Direction.TheVariants.{Forward, Backward}
use Rattle.regex_select.specs.declared.way.Search.{Search}
use Rattle.regex_select.specs.Searching.{first_or}

-- whether a match is ahead of a selection
abbrev pub is_ahead_at : Direction → Sel → Sel → Bool
is_ahead_at Forward s m = not (is_at_most m.low s.high)
is_ahead_at Backward s m = not (is_at_most s.low m.low)

-- none of some matches is ahead of a selection
abbrev pub ArePassed : Direction → Sel → List Sel → Type 0
ArePassed direction s ms = AllByRecursion (λ m. is_ahead_at direction s m ≡ false) ms

-- the second selection is as far on the way as the first one, or further
abbrev pub IsFurther : Direction → Sel → Sel → Type 0
IsFurther Forward s t = is_at_most s.high t.high ≡ true
IsFurther Backward s t = is_at_most t.low s.low ≡ true

-- each selection is as far on the way as those that come earlier in the list, or further
abbrev pub GoesAhead : Direction → List Sel → Type 0
GoesAhead direction [] = Unit {0}
GoesAhead direction (s ∷ ss) = AllByRecursion (IsFurther direction s) ss × GoesAhead direction ss

-- the match that is found from a selection, where the matches are in the order of the way
abbrev pub sought_at : Direction → List Sel → Sel → Sel
sought_at direction ms s = first_or s (filter (is_ahead_at direction s) ms ++ ms)

-- a match that was found from a selection, or the selection stretched to its last character
abbrev pub reached_at : Bool → Sel → Sel → Sel
reached_at extend s m = if extend then sel_of_pair (record { anchor = anchor_at s; cursor = m.high }) else m

-- what a search makes of a selection
abbrev pub searched_at : Search → List Sel → Sel → Sel
searched_at search ms s = reached_at search.extend s (sought_at search.direction ms s)
