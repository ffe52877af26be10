-- Whether selections are in order, and the numbers of their places in a list, by which they can be put into order.
use Rattle.std.specs.Prelude.{ℕ, ◌+◌, ◌*◌, ◌<◌, Bool, true, ◌&&◌, List, [], ◌∷◌}
use Rattle.text_model.specs.Coords.{is_at_most}
use Rattle.selection_set.specs.declared.sel.Sel.{Sel}
use Rattle.selection_set.specs.declared.order.Numbered.{Numbered}

-- the selections of a list with their numbers, from a number on
abbrev pub numbered_from : ℕ → List Sel → List Numbered
numbered_from k [] = []
numbered_from k (s ∷ ss) = record { sel = s; number = k } ∷ numbered_from (k + 1) ss

-- one number for the first character and the place in the list: the line, then the column, then the place
abbrev pub rank : Numbered → ℕ
rank n = (n.sel.low.line * 4294967296 + n.sel.low.column) * 4294967296 + n.number

-- its column and its number are numbers of the code
pub record HasSmallNumbers (n : Numbered) : Type 0 where
  pub column : n.sel.low.column < 4294967296
  pub number : n.number < 4294967296

-- whether the first selection of a list, if there is one, doesn't begin before a selection
abbrev pub begins_before : Sel → List Sel → Bool
begins_before s [] = true
begins_before s (t ∷ ts) = is_at_most s.low t.low

-- whether no selection begins before the one in front of it
abbrev pub in_order : List Sel → Bool
in_order [] = true
in_order (s ∷ ss) = begins_before s ss && in_order ss
