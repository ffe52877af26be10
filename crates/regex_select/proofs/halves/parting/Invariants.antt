-- The match in front of the lower bound stands before, and the one at the upper bound doesn't.
use Rattle.std.proofs.Common.{◌≡◌, ◌<◌, ◌≤◌, ◌-◌, true, false, length, get_or}
use Rattle.selection_set.specs.declared.sel.Sel.{Sel}
use Rattle.regex_select.specs.Known.{stands_before}
use Rattle.regex_select.proofs.halves.parting.Given as goal

abbrev pub invariant-loop-low : goal.invariant-loop-low
invariant-loop-low l = record {
  ordered : l.low ≤ l.high;
  within : l.high ≤ length l.matches;
  before : 0 < l.low → (d : Sel) → stands_before l.direction l.sel (get_or l.matches (l.low - 1) d) ≡ true;
  behind : l.high < length l.matches → (d : Sel) → stands_before l.direction l.sel (get_or l.matches l.high d) ≡ false;
}

abbrev pub decreases-loop-low : goal.decreases-loop-low
decreases-loop-low l = l.high - l.low
