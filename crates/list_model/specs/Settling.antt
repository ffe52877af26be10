-- How a list of selections is settled: put into order by its first characters, and those that share characters joined.
use Rattle.std.specs.Prelude.{ℕ, zero, suc, Bool, if◌then◌else◌, nat_le, nat_lt, List, [], ◌∷◌, map}
use Rattle.list_model.specs.Ranges.{Range, Selected}

-- when a neighbour in a list in order belongs to the one before it, and what the two become
pub record JoinRule (S : Type 0) : Type 0 where
  pub due : S → S → Bool
  pub join : S → S → S

-- neighbours joined from the left, with `current` as the first one
abbrev pub sweep : {S : Type 0} → JoinRule S → S → List S → List S
sweep kind current [] = current ∷ []
sweep kind current (s ∷ ss) = if kind.due current s then sweep kind (kind.join current s) ss else current ∷ sweep kind s ss

-- where the n-th one is after the sweep: 0 is the first one, `current`
abbrev pub sweep_place : {S : Type 0} → JoinRule S → S → List S → ℕ → ℕ
sweep_place kind current ss zero = 0
sweep_place kind current [] (suc n) = 0
sweep_place kind current (s ∷ ss) (suc n) =
    if kind.due current s then sweep_place kind (kind.join current s) ss n else suc (sweep_place kind s ss n)

-- a selection with the characters of a later one: it keeps its flag and its target
abbrev pub joined_range : Range → Range → Range
joined_range r s = record { low = r.low; high = if nat_le r.high s.high then s.high else r.high; turned = r.turned; target = r.target }

-- selections are joined where the later one begins inside the earlier one
abbrev pub ranges : JoinRule Range
ranges = record { due = λ r s. nat_le s.low r.high; join = joined_range }

-- a selection put into a list in order, before the first one that doesn't begin before it
abbrev pub placed : Range → List Range → List Range
placed r [] = r ∷ []
placed r (s ∷ ss) = if nat_le r.low s.low then r ∷ s ∷ ss else s ∷ placed r ss

-- a list in order: by first characters, and as it was where these are the same
abbrev pub sorted : List Range → List Range
sorted [] = []
sorted (r ∷ rs) = placed r (sorted rs)

-- how many of a list in order begin before a selection
abbrev pub slot : Range → List Range → ℕ
slot r [] = 0
slot r (s ∷ ss) = if nat_le r.low s.low then 0 else suc (slot r ss)

-- a place of a list after a selection was put in at a slot
abbrev pub past_slot : ℕ → ℕ → ℕ
past_slot at n = if nat_lt n at then n else suc n

-- where the n-th selection is in the list in order
abbrev pub sorted_place : List Range → ℕ → ℕ
sorted_place [] n = 0
sorted_place (r ∷ rs) zero = slot r (sorted rs)
sorted_place (r ∷ rs) (suc n) = past_slot (slot r (sorted rs)) (sorted_place rs n)

-- a list in order with its neighbours joined
abbrev pub swept : List Range → List Range
swept [] = []
swept (r ∷ rs) = sweep ranges r rs

-- where the n-th selection of a list in order is then
abbrev pub swept_place : List Range → ℕ → ℕ
swept_place [] n = 0
swept_place (r ∷ rs) n = sweep_place ranges r rs n

-- the settled list; the main selection is the one that holds the former main one
abbrev pub settled : Selected → Selected
settled s = record { list = swept (sorted s.list); main = swept_place (sorted s.list) (sorted_place s.list s.main) }

-- each selection replaced by what a function makes of it, and the list settled
abbrev pub each_settled : (Range → Range) → Selected → Selected
each_settled f s = settled (record { list = map f s.list; main = s.main })

-- a selection whose ends go where a function says; flag and target stay
abbrev pub carried : (ℕ → ℕ) → Range → Range
carried f r = record { low = f r.low; high = f r.high; turned = r.turned; target = r.target }
