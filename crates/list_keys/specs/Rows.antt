-- The rows of the keys that change a list of selections as a whole.
use Rattle.std.specs.Prelude.{◌≡◌, ℕ, ◌+◌, ◌-◌, false, ◌==◌, if◌then◌else◌, List, [], ◌∷◌, ◌++◌, length, take, drop, filter_map, flat_map, is_some, option_map, None, Some}
use Rattle.std.specs.declared.option.Option.{Option}
use Rattle.text_model.specs.Texts.{last_place}
use Rattle.list_model.specs.Ranges.{Range, Selected}
use Rattle.list_model.specs.Settling.{settled}
use Rattle.selection_set.specs.Listing.{Listed}
use Rattle.selection_set.specs.Held.{selected, main_of}
use Rattle.directions.specs.declared.direction.Direction.{Direction}
use Rattle.directions.specs.declared.direction.Direction.TheVariants.{Forward, Backward}

-- the settled list of some selections; none where there are none
abbrev pub settled_some : List Range → ℕ → Option Selected
settled_some [] main = None
settled_some (r ∷ rs) main = Some (settled (record { list = r ∷ rs; main = main }))

-- the place of what is left of the main selection among what is left of all; where it is dropped, the last place
abbrev pub main_left : (Range → Option Range) → Selected → ℕ
main_left cut s = if is_some (cut (main_of s)) then length (filter_map cut (take s.main s.list)) else length (filter_map cut s.list) - 1

-- what is left of each selection; none where nothing is left of any
abbrev pub left_of_each : (Range → Option Range) → Selected → Option Selected
left_of_each cut s = settled_some (filter_map cut s.list) (main_left cut s)

-- the parts of all selections; the last one is the main one
abbrev pub parts_of_each : (Range → List Range) → Selected → Selected
parts_of_each parts s = settled (record { list = flat_map parts s.list; main = length (flat_map parts s.list) - 1 })

-- the selections, and behind them the copies of those that have one
abbrev pub with_copies : (Range → Option Range) → Selected → List Range
with_copies copy s = s.list ++ filter_map copy s.list

-- the place there of the main selection's copy; where it has none, of the main selection itself
abbrev pub main_copied : (Range → Option Range) → Selected → ℕ
main_copied copy s = if is_some (copy (main_of s)) then length s.list + length (filter_map copy (take s.main s.list)) else s.main

-- the list with the copies of its selections
abbrev pub copied_each : (Range → Option Range) → Selected → Selected
copied_each copy s = settled (record { list = with_copies copy s; main = main_copied copy s })

-- there is a list, and it selects this of a text
abbrev pub Selects : List ℕ → Selected → Option Listed → Type 0
Selects text s found = option_map (selected text) found ≡ Some s

-- the main selection alone
abbrev pub main_alone : Selected → Selected
main_alone s = record { list = main_of s ∷ []; main = 0 }

-- the selections but the main one, of which the one before it becomes the main one, or the last one where it was the
-- first; none where it was the only one
abbrev pub without_main : Selected → Option Selected
without_main s = settled_some (take s.main s.list ++ drop (s.main + 1) s.list) (if s.main == 0 then length s.list - 2 else s.main - 1)

-- the place behind a place among so many, or before it, round the ends
abbrev pub place_beside : Direction → ℕ → ℕ → ℕ
place_beside Forward count n = if n + 1 == count then 0 else n + 1
place_beside Backward count n = if n == 0 then count - 1 else n - 1

-- the selection behind the main one, or before it, becomes the main one
abbrev pub main_turned : Direction → Selected → Selected
main_turned direction s = record { list = s.list; main = place_beside direction (length s.list) s.main }

-- one straight selection of the whole text
abbrev pub whole_text : List ℕ → Selected
whole_text text = record { list = record { low = 0; high = last_place text; turned = false; target = None } ∷ []; main = 0 }
