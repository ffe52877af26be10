-- How a list of selections in order walks through shifts in order: ends and shifts both go forward, and each is passed once.
use Rattle.std.specs.Prelude.{◌≡◌, Bool, true, if◌then◌else◌, List, [], ◌∷◌, reverse, drop}
use Rattle.text_model.specs.declared.coords.Coord.{Coord}
use Rattle.text_model.specs.declared.coords.Shift.{Shift}
use Rattle.text_model.specs.Coords.{is_at_most}
use Rattle.selection_map.specs.declared.reach.ShiftReach.{ShiftReach}
use Rattle.selection_map.specs.declared.walking.ShiftWay.{ShiftWay}
use Rattle.selection_map.specs.declared.walking.ShiftWay.TheVariants.{Rising, Falling}
use Rattle.selection_map.specs.declared.walking.Walk.{Walk}
use Rattle.selection_map.specs.Rebasing.{earlier}
use Rattle.selection_map.specs.Reaching.{goes, reach_of, then_on}

-- the order in which shifts are passed: those whose begins rise from the first one, those whose begins fall from the last one
abbrev pub queue : ShiftWay → List Shift → List Shift
queue Rising shifts = shifts
queue Falling shifts = reverse shifts

-- whether a shift is passed before an end: it begins at or before where the end has gone, or where the end stands
abbrev pub is_due : ShiftWay → Coord → Shift → ShiftReach → Bool
is_due Rising at s w = is_at_most s.begin (goes w at)
is_due Falling at s w = is_at_most s.begin at

-- the way with one more shift: the next one behind it, or the one before it in front of it
abbrev pub with_shift : ShiftWay → Shift → ShiftReach → ShiftReach
with_shift Rising s w = then_on w (reach_of s)
with_shift Falling s w = then_on (reach_of s) w

-- a way, and the shifts that weren't passed yet
pub record Underway : Type 0 where
  pub reach : ShiftReach
  pub rest : List Shift

-- on the way to an end, the shifts that are due are passed
abbrev pub advanced : ShiftWay → Coord → ShiftReach → List Shift → Underway
advanced way at w [] = record { reach = w; rest = [] }
advanced way at w (s ∷ ss) = if is_due way at s w then advanced way at (with_shift way s w) ss else record { reach = w; rest = s ∷ ss }

-- a walk of the code, with the shifts that it has yet to pass
abbrev pub underway : ShiftWay → List Shift → Walk → Underway
underway way shifts walk = record { reach = walk.reach; rest = drop walk.passed (queue way shifts) }

-- the coordinate that the begin of the shift passed before may reach at most
abbrev pub bound : ShiftWay → Shift → Coord
bound Rising s = s.begin
bound Falling s = earlier s.begin s.last

-- whether one shift may follow another in a walk: its begin doesn't fall, or it doesn't rise and isn't behind the last place
abbrev pub follows : ShiftWay → Shift → Shift → Bool
follows Rising a b = is_at_most a.begin b.begin
follows Falling a b = is_at_most b.begin (earlier a.begin a.last)

-- each shift may follow the one before it
abbrev pub IsRun : ShiftWay → List Shift → Type 0
IsRun way [] = Unit {0}
IsRun way (s ∷ []) = Unit {0}
IsRun way (s ∷ (t ∷ ts)) = (follows way s t ≡ true) × IsRun way (t ∷ ts)
