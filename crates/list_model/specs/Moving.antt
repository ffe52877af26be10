-- How a settled list moves through the changes of its text: it is mapped and settled at each of them.
use Rattle.std.specs.Prelude.{◌≡◌, ℕ, ◌≤◌, List, [], ◌∷◌, map}
use Rattle.text_model.specs.Changes.{Move}
use Rattle.text_model.specs.Mapping.{shifted}
use Rattle.list_model.specs.Ranges.{Selected}
use Rattle.list_model.specs.Settling.{each_settled, carried}
use Rattle.list_model.specs.Settled.{IsSettled}

-- where an offset goes through changes, one after another
abbrev pub all_shifted : List Move → ℕ → ℕ
all_shifted [] o = o
all_shifted (m ∷ ms) o = all_shifted ms (shifted m o)

-- a list is mapped and settled at each of some changes
abbrev pub IsMovedAtEach : List Move → Selected → Selected → Type 0
IsMovedAtEach [] s t = s ≡ t
IsMovedAtEach (m ∷ ms) s t = (u : Selected) × IsSettled (map (carried (shifted m)) s.list) s.main u.list u.main × IsMovedAtEach ms u t

-- a list is mapped through all of some changes, and settled once
abbrev pub moved_at_once : List Move → Selected → Selected
moved_at_once ms s = each_settled (carried (all_shifted ms)) s

-- the range of a change is in order
abbrev pub IsMove : Move → Type 0
IsMove m = m.begin ≤ m.end
