-- Two lists of selections put together.
use Rattle.std.specs.Prelude.{◌≡◌, ℕ, suc, ◌≤◌, false, if◌then◌else◌, List, [], ◌∷◌, None}
use Rattle.text_model.specs.declared.coords.Coord.{Coord}
use Rattle.text_model.specs.Coords.{is_at_most}
use Rattle.list_model.specs.Ranges.{Range}
use Rattle.selection_set.specs.declared.sel.Sel.{Sel}

-- a range in order, straight and without a target, as marks are
pub record IsPlain (r : Range) : Type 0 where
  pub ordered : r.low ≤ r.high
  pub straight : r.turned ≡ false
  pub untargeted : r.target ≡ None

-- a selection and what comes behind it, with those of a list that begin before it put in front
abbrev pub with_earlier : Sel → (List Sel → List Sel) → List Sel → List Sel
with_earlier y rest [] = y ∷ rest []
with_earlier y rest (z ∷ zs) = if is_at_most y.low z.low then y ∷ rest (z ∷ zs) else z ∷ with_earlier y rest zs

-- two lists in order as one: where selections begin in the same place, that of the first list comes first
abbrev pub in_one : List Sel → List Sel → List Sel
in_one [] zs = zs
in_one (y ∷ ys) zs = with_earlier y (in_one ys) zs

-- how many of the first selections of a list begin at a place or before it
abbrev pub count_ahead : Coord → List Sel → ℕ
count_ahead low [] = 0
count_ahead low (y ∷ ys) = if is_at_most y.low low then suc (count_ahead low ys) else 0
