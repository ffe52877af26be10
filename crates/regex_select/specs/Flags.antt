-- Lists with a flag for each element.
use Rattle.std.specs.Prelude.{ℕ, ◌-◌, Bool, false, if◌then◌else◌, List, [], ◌∷◌, length, take, filter, slice_index_or}

-- the elements whose flags are set
abbrev pub flagged : {X : Type 0} → List Bool → List X → List X
flagged [] xs = []
flagged (b ∷ bs) [] = []
flagged (b ∷ bs) (x ∷ xs) = if b then x ∷ flagged bs xs else flagged bs xs

-- how many flags are set
abbrev pub count_set : List Bool → ℕ
count_set bs = length (filter (λ b. b) bs)

-- the place of an element among those whose flags are set; the last place where its own isn't
abbrev pub place_set : List Bool → ℕ → ℕ
place_set bs n = if slice_index_or bs n false then count_set (take n bs) else count_set bs - 1
