-- Lists of selections by coordinates, of which one is the main one, and the ranges that they are in a text.
use Rattle.std.specs.Prelude.{ℕ, ◌<◌, ◌≤◌, min, max, nat_lt, true, false, if◌then◌else◌, None, List, [], ◌∷◌, length, map}
use Rattle.std.specs.List.{AllByRecursion}
use Rattle.text_model.specs.declared.TheConstants.{MAX_SELECTIONS}
use Rattle.text_model.specs.Coords.{is_at_most}
use Rattle.text_model.specs.Texts.{offset, IsPlace}
use Rattle.list_model.specs.Ranges.{Range}
use Rattle.list_model.specs.Settled.{IsSettled}
use Rattle.selection_set.specs.declared.sel.Sel.{Sel}
use Rattle.selection_set.specs.declared.sel.Pair.{Pair}
use Rattle.selection_set.specs.Inside.{range_of, IsInside}

-- a list of selections, and the place in it of the main one
pub record Listed : Type 0 where
  pub list : List Sel
  pub main : ℕ

-- what a list may be: it has its main selection, and no more selections than are allowed
pub record IsList (list : List Sel) (main : ℕ) : Type 0 where
  pub main_is : main < length list
  pub few : length list ≤ MAX_SELECTIONS

-- the ranges that selections are in a text
abbrev pub ranges_of : List ℕ → List Sel → List Range
ranges_of text list = map (range_of text) list

-- all selections are inside a text
abbrev pub AreInside : List ℕ → List Sel → Type 0
AreInside text list = AllByRecursion (IsInside text) list

-- no range begins before one that comes earlier in the list
abbrev pub LowsDontFall : List Range → Type 0
LowsDontFall [] = Unit {0}
LowsDontFall (r ∷ rs) = AllByRecursion (λ s. r.low ≤ s.low) rs × LowsDontFall rs

-- a list is inside a text, and there it is the settled list of some ranges, with their main one
pub record IsSettledIn (text : List ℕ) (given : List Range) (main : ℕ) (s : Listed) : Type 0 where
  pub inside : AreInside text s.list
  pub settled : IsSettled given main (ranges_of text s.list) s.main

-- the range from an anchor to a cursor: turned exactly where the cursor is before the anchor, and without a target
abbrev pub range_between : ℕ → ℕ → Range
range_between anchor cursor = record { low = min anchor cursor; high = max anchor cursor; turned = nat_lt cursor anchor; target = None }

-- the range that two ends make in a text
abbrev pub range_of_pair : List ℕ → Pair → Range
range_of_pair text pair = range_between (offset text pair.anchor) (offset text pair.cursor)

-- both ends are places of a text
pub record IsPairInside (text : List ℕ) (pair : Pair) : Type 0 where
  pub anchor : IsPlace text pair.anchor
  pub cursor : IsPlace text pair.cursor

-- the selection from an anchor to a cursor, by coordinates
abbrev pub sel_of_pair : Pair → Sel
sel_of_pair pair =
    if is_at_most pair.anchor pair.cursor
    then record { low = pair.anchor; high = pair.cursor; turned = false; target = None }
    else record { low = pair.cursor; high = pair.anchor; turned = true; target = None }
