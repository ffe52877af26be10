-- How far places go through several changes at once, by coordinates.
use Rattle.std.specs.Prelude.{if◌then◌else◌, List, [], ◌∷◌}
use Rattle.text_model.specs.declared.coords.Coord.{Coord}
use Rattle.text_model.specs.declared.coords.Shift.{Shift}
use Rattle.text_model.specs.Coords.{origin, is_at_most}
use Rattle.selection_set.specs.declared.sel.Sel.{Sel}
use Rattle.selection_map.specs.declared.reach.ShiftReach.{ShiftReach}
use Rattle.selection_map.specs.Rebasing.{rebased, earlier, mapped}

-- where a coordinate goes: up to `from` to one place, and behind it as far behind `onto` as it was behind `from`
abbrev pub goes : ShiftReach → Coord → Coord
goes w at = if is_at_most at w.from then w.put else rebased at w.from w.onto

-- no way at all
abbrev pub at_rest : ShiftReach
at_rest = record { from = origin; onto = origin; put = origin }

-- the way of one shift, for the coordinates that aren't before its begin
abbrev pub reach_of : Shift → ShiftReach
reach_of s =
    if s.insert
    then record { from = s.begin; onto = s.end; put = earlier s.end s.last }
    else record { from = s.end; onto = s.begin; put = earlier s.begin s.last }

-- one way, and then another
abbrev pub then_on : ShiftReach → ShiftReach → ShiftReach
then_on a b = record {
  from = if is_at_most b.from a.onto then a.from else rebased b.from a.onto a.from;
  onto = if is_at_most b.from a.onto then rebased a.onto b.from b.onto else b.onto;
  put = goes b a.put;
}

-- where a coordinate goes through shifts, one after another
abbrev pub all_mapped : List Shift → Coord → Coord
all_mapped [] at = at
all_mapped (s ∷ ss) at = all_mapped ss (mapped s at)

-- where a selection goes through shifts, one after another: both of its ends go, flag and target stay
abbrev pub through : List Shift → Sel → Sel
through shifts sel = record { low = all_mapped shifts sel.low; high = all_mapped shifts sel.high; turned = sel.turned; target = sel.target }
