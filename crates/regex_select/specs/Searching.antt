-- Searching a text for a pattern, from selections on. The pattern is given by the text that it was made of.
use Rattle.std.specs.Prelude.{◌≡◌, ℕ, Bool, nat_lt, if◌then◌else◌, List, [], ◌∷◌, ◌++◌, length, filter, reverse, slice_set}
use Rattle.list_model.specs.Ranges.{Range, Selected, anchor}
use Rattle.list_model.specs.Settling.{settled, each_settled}
use Rattle.selection_set.specs.Listing.{Listed, range_between}
use Rattle.selection_set.specs.Held.{selected, main_of}
use Rattle.directions.specs.declared.direction.Direction.{Direction}
use Rattle.directions.specs.declared.direction.Direction.TheVariants.{Forward, Backward}
use Rattle.regex_select.specs.declared.way.Search.{Search}
use Rattle.regex_select.specs.Rows.{spans_in}
use Rattle.regex_select.specs.Selecting.{selected_by_all}

-- what the matches in the whole text select
abbrev pub all_matches : List ℕ → List ℕ → List Range
all_matches source text = selected_by_all text 0 (spans_in source text)

-- a list in the order in which a search comes to what is in it
abbrev pub on_the_way : {X : Type 0} → Direction → List X → List X
on_the_way Forward xs = xs
on_the_way Backward xs = reverse xs

-- whether a match is ahead of a selection: it begins behind the selection's end, or before its begin
abbrev pub is_ahead : Direction → Range → Range → Bool
is_ahead Forward r m = nat_lt r.high m.low
is_ahead Backward r m = nat_lt m.low r.low

-- the first of some, or what is given where there are none
abbrev pub first_or : {X : Type 0} → X → List X → X
first_or d [] = d
first_or d (x ∷ xs) = x

-- the match that a search from a selection finds: the first one ahead of it, or, round the end of the text, the first one
-- on the way; a selection stays where there are none
abbrev pub sought : Direction → List Range → Range → Range
sought direction ms r = first_or r (filter (is_ahead direction r) (on_the_way direction ms) ++ on_the_way direction ms)

-- the match that was found from a selection, or the selection from its anchor to the match's last character
abbrev pub reached : Bool → Range → Range → Range
reached extend r m = if extend then range_between (anchor r) m.high else m

-- what a search makes of a selection
abbrev pub searched : Search → List Range → Range → Range
searched search ms r = reached search.extend r (sought search.direction ms r)

-- the match of a pattern in a text that a search from a selection finds
abbrev pub match_from : Direction → List ℕ → List ℕ → Range → Range
match_from direction source text = sought direction (all_matches source text)

-- what a search for a pattern in a text makes of a selection
abbrev pub search_of : Search → List ℕ → List ℕ → Range → Range
search_of search source text = searched search (all_matches source text)

-- the main selection replaced by what a function makes of it, and the list settled
abbrev pub main_settled : (Range → Range) → Selected → Selected
main_settled f s = settled (record { list = slice_set s.list s.main (f (main_of s)); main = s.main })

-- what a function makes of the main selection put behind the list as the main one, and the list settled
abbrev pub main_added : (Range → Range) → Selected → Selected
main_added f s = settled (record { list = s.list ++ f (main_of s) ∷ []; main = length s.list })

-- a list of selections of a text has become another: so the main one, and the list is settled
abbrev pub IsMainSettled : List ℕ → (Range → Range) → Listed → Listed → Type 0
IsMainSettled text f old new = selected text new ≡ main_settled f (selected text old)

-- so each of them
abbrev pub IsEachSettled : List ℕ → (Range → Range) → Listed → Listed → Type 0
IsEachSettled text f old new = selected text new ≡ each_settled f (selected text old)
