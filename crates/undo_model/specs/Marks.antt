-- The list of selections that a move in an undo tree leaves.
use Rattle.std.specs.Prelude.{ℕ, ◌+◌, ◌-◌, min, false, List, [], ◌∷◌, ◌++◌, length, drop, map, None}
use Rattle.text_model.specs.declared.TheConstants.{MAX_SELECTIONS}
use Rattle.text_model.specs.Texts.{last_place}
use Rattle.text_model.specs.Changes.{Change, Insertion, Erasure, changed, move_of}
use Rattle.text_model.specs.Mapping.{shifted}
use Rattle.list_model.specs.Ranges.{Range, Selected, only}
use Rattle.list_model.specs.Settling.{carried, settled}

-- the mark of a change in the text behind it: what was put in, or the character where something was taken out
abbrev pub mark : List ℕ → Change → Range
mark text (Insertion p s) = record { low = p; high = p + length s - 1; turned = false; target = None }
mark text (Erasure p q) = only (min p (last_place text))

-- the marks of changes behind those that there are, each gone through the changes after it
abbrev pub marks : List ℕ → List Range → List Change → List Range
marks text rs [] = rs
marks text rs (c ∷ cs) = marks (changed text c) (map (carried (shifted (move_of text c))) rs ++ mark (changed text c) c ∷ []) cs

-- the last of a list, at most so many
abbrev pub last_ones : ℕ → List Range → List Range
last_ones n rs = drop (length rs - n) rs

-- marks as a settled list, whose main one is that of the last change; without marks the list stays
abbrev pub list_or : Selected → List Range → Selected
list_or before [] = before
list_or before (r ∷ rs) = settled (record { list = r ∷ rs; main = length rs })

-- the list that changes of a move leave: the marks of the last changes, as many as a list may have
abbrev pub left_by : List ℕ → List Change → Selected → Selected
left_by text cs before = list_or before (last_ones MAX_SELECTIONS (marks text [] cs))
