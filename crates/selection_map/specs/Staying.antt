-- Which selections of a list stay where they are through shifts.
use Rattle.std.specs.Prelude.{◌≡◌, ℕ, ◌+◌, ◌-◌, Bool, ◌&&◌, ◌==◌, false, if◌then◌else◌, List, [], ◌∷◌, take, drop, map}
use Rattle.text_model.specs.declared.coords.Coord.{Coord}
use Rattle.text_model.specs.declared.coords.Shift.{Shift}
use Rattle.text_model.specs.Coords.{is_at_most}
use Rattle.selection_set.specs.declared.sel.Sel.{Sel}
use Rattle.selection_map.specs.Reaching.{all_mapped, through}

-- the first n selections of a list stay where they are
abbrev pub FirstStay : ℕ → List Shift → List Sel → Type 0
FirstStay n shifts list = map (through shifts) (take n list) ≡ take n list

-- all behind the first n do
abbrev pub OthersStay : ℕ → List Shift → List Sel → Type 0
OthersStay n shifts list = map (through shifts) (drop n list) ≡ drop n list

-- those from the m-th on do, up to before the n-th
abbrev pub StayBetween : ℕ → ℕ → List Shift → List Sel → Type 0
StayBetween m n shifts list = map (through shifts) (take (n - m) (drop m list)) ≡ take (n - m) (drop m list)

-- whether a coordinate stays where it is
abbrev pub coord_stays : List Shift → Coord → Bool
coord_stays shifts at = (all_mapped shifts at).line == at.line && (all_mapped shifts at).column == at.column

-- whether both ends of a selection do
abbrev pub sel_stays : List Shift → Sel → Bool
sel_stays shifts sel = coord_stays shifts sel.low && coord_stays shifts sel.high

-- how many selections of a list don't
abbrev pub count_moved : List Shift → List Sel → ℕ
count_moved shifts [] = 0
count_moved shifts (x ∷ xs) = (if sel_stays shifts x then 0 else 1) + count_moved shifts xs

-- each selection of a list ends before the next one begins
abbrev pub EndBeforeNext : List Sel → Type 0
EndBeforeNext [] = Unit {0}
EndBeforeNext (x ∷ []) = Unit {0}
EndBeforeNext (x ∷ (y ∷ ys)) = (is_at_most y.low x.high ≡ false) × EndBeforeNext (y ∷ ys)
