-- How many lists a client can take back.
use Rattle.std.specs.Prelude.{ℕ, ◌+◌, Bool, ◌&&◌, nat_le, if◌then◌else◌, List, [], ◌∷◌, length}
use Rattle.list_archive.specs.declared.limits.TheConstants.{MAX_PAST, MAX_PAST_SELECTIONS}

-- how many selections some lists have together
abbrev pub total : {A : Type 0} → (A → ℕ) → List A → ℕ
total size [] = 0
total size (x ∷ xs) = size x + total size xs

-- whether so many lists, with so many selections, are allowed
abbrev pub fits : {A : Type 0} → (A → ℕ) → List A → Bool
fits size xs = nat_le (length xs) MAX_PAST && nat_le (total size xs) MAX_PAST_SELECTIONS

-- the newest of some lists, which begin with the oldest: as many as are allowed, and the last one in any case
abbrev pub newest : {A : Type 0} → (A → ℕ) → List A → List A
newest size [] = []
newest size (x ∷ []) = x ∷ []
newest size (x ∷ y ∷ ys) = if fits size (x ∷ y ∷ ys) then x ∷ y ∷ ys else newest size (y ∷ ys)
