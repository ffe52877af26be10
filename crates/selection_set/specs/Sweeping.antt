-- The sweep of a list of selections by their coordinates.
use Rattle.std.specs.Prelude.{ℕ, if◌then◌else◌, List, [], ◌∷◌}
use Rattle.text_model.specs.Coords.{is_at_most}
use Rattle.list_model.specs.Settling.{JoinRule, sweep, sweep_place}
use Rattle.selection_set.specs.declared.sel.Sel.{Sel}
use Rattle.selection_set.specs.Listing.{Listed}

-- a selection with the characters of a later one: it keeps its flag and its target
abbrev pub joined_sel : Sel → Sel → Sel
joined_sel a b = record { low = a.low; high = if is_at_most a.high b.high then b.high else a.high; turned = a.turned; target = a.target }

-- selections are joined where the later one begins inside the earlier one
abbrev pub by_coords : JoinRule Sel
by_coords = record { due = λ a b. is_at_most b.low a.high; join = joined_sel }

-- a list in order with its neighbours joined
abbrev pub swept_sels : List Sel → List Sel
swept_sels [] = []
swept_sels (s ∷ ss) = sweep by_coords s ss

-- where the n-th selection of a list in order is then
abbrev pub swept_sels_place : List Sel → ℕ → ℕ
swept_sels_place [] n = 0
swept_sels_place (s ∷ ss) n = sweep_place by_coords s ss n

-- both
abbrev pub swept_listed : Listed → Listed
swept_listed s = record { list = swept_sels s.list; main = swept_sels_place s.list s.main }
