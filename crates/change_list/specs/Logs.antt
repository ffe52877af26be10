-- Logs of the shifts of a text, and the shift that takes a change back.
use Rattle.std.specs.Prelude.{◌≡◌, ℕ, ◌+◌, ◌-◌, not, List, [], ◌∷◌, ◌++◌, length, drop}
use Rattle.text_model.specs.declared.coords.Coord.{Coord}
use Rattle.text_model.specs.declared.coords.Shift.{Shift}
use Rattle.text_model.specs.Texts.{coord_at, last_place}
use Rattle.text_model.specs.Changes.{Change, changed, inverse, IsChangeInside, move_of, IsShift}

-- a log as it is seen: the stamp of its first shift, and the shifts
pub record Logged : Type 0 where
  pub first : ℕ
  pub shifts : List Shift

-- the stamp behind the last shift of a log
abbrev pub stamp_of : Logged → ℕ
stamp_of log = log.first + length log.shifts

-- a log that holds nothing and stands at stamp 0
abbrev pub fresh : Logged
fresh = record { first = 0; shifts = [] }

-- a log with one more shift at its end
abbrev pub pushed : Logged → Shift → Logged
pushed log s = record { first = log.first; shifts = log.shifts ++ s ∷ [] }

-- a log without the shifts before a stamp
abbrev pub trimmed : Logged → ℕ → Logged
trimmed log to = record { first = to; shifts = drop (to - log.first) log.shifts }

-- the shift that takes another back: of the other kind, over the same range, and with the last place of the text before
abbrev pub back : Shift → Coord → Shift
back s last = record { insert = not s.insert; begin = s.begin; «end» = s.end; last = last }

-- whatever change of a text the first is the shift of, the second is the shift of what takes it back
abbrev pub TakesBack : Shift → Coord → Shift → Type 0
TakesBack shift last result = (text : List ℕ) (c : Change) → IsChangeInside text c → IsShift text (changed text c) shift (move_of text c) → last ≡ coord_at text (last_place text) → IsShift (changed text c) text result (move_of (changed text c) (inverse text c))
