-- Lists of selections, as they are built up.
use Rattle.std.proofs.Common.{List, ℕ, [], ◌∷◌, ◌++◌}
use Rattle.selection_set.specs.declared.sel.Sel.{Sel}
use Rattle.selection_set.specs.Inside.{IsInside}
use Rattle.selection_set.specs.Listing.{AreInside}

-- one more selection of a list inside a text
pub inside-more : (text : List ℕ) (list : List Sel) (x : Sel) → AreInside text list → IsInside text x → AreInside text (list ++ x ∷ [])
inside-more text [] x h i = (i, tt)
inside-more text (y ∷ ys) x h i = (h.0, inside-more text ys x h.1 i)
