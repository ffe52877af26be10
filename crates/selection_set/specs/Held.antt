-- The lists of selections that lie in a text and are settled there.
use Rattle.std.specs.Prelude.{List, ℕ, slice_index_or}
use Rattle.list_model.specs.Ranges.{Range, Selected, only}
use Rattle.list_model.specs.Settled.{IsSettledList}
use Rattle.selection_set.specs.Listing.{Listed, ranges_of, AreInside}

-- the ranges that a list is in a text, with the main one
abbrev pub selected : List ℕ → Listed → Selected
selected text s = record { list = ranges_of text s.list; main = s.main }

-- a list lies inside a text, and is settled there
pub record IsHeld (text : List ℕ) (s : Listed) : Type 0 where
  pub inside : AreInside text s.list
  pub settled : IsSettledList (selected text s)

-- the main selection
abbrev pub main_of : Selected → Range
main_of s = slice_index_or s.list s.main (only 0)
