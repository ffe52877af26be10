-- The selection in front of the lower bound ends before the coordinate.
use Rattle.std.proofs.Common.{◌≡◌, ◌<◌, ◌≤◌, ◌-◌, false, length, get_or}
use Rattle.text_model.specs.Coords.{is_at_most}
use Rattle.selection_set.specs.declared.sel.Sel.{Sel}
use Rattle.selection_map.proofs.staying.first_from.Given as goal

abbrev pub invariant-loop-low : goal.invariant-loop-low
invariant-loop-low l = record {
  behind : l.from ≤ l.low;
  ordered : l.low ≤ l.high;
  within : l.high ≤ length l.sels.list;
  before : l.from < l.low → (d : Sel) → is_at_most l.at (get_or l.sels.list (l.low - 1) d).high ≡ false;
}

abbrev pub decreases-loop-low : goal.decreases-loop-low
decreases-loop-low l = l.high - l.low
