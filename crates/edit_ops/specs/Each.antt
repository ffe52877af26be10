-- One replacement for each selection, from the first to the last.
use Rattle.std.specs.Prelude.{ℕ, ◌+◌, List, [], ◌∷◌}
use Rattle.list_model.specs.Ranges.{Range}
use Rattle.undo_model.specs.Edits.{Splice}

-- a replacement for each range of a list, by the number of the first one and the range
abbrev pub each_from : (ℕ → Range → Splice) → ℕ → List Range → List Splice
each_from f n [] = []
each_from f n (r ∷ rs) = f n r ∷ each_from f (n + 1) rs
