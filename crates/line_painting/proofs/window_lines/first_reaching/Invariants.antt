-- The selection in front of the lower bound ends before the line, and the one at the upper bound doesn't.
use Rattle.std.proofs.Common.{◌<◌, ◌≤◌, ◌-◌, length, get_or}
use Rattle.selection_set.specs.declared.sel.Sel.{Sel}
use Rattle.line_painting.proofs.window_lines.first_reaching.Given as goal

abbrev pub invariant-loop-low : goal.invariant-loop-low
invariant-loop-low l = record {
  behind : l.from ≤ l.low;
  ordered : l.low ≤ l.high;
  within : l.high ≤ length l.sels;
  before : l.from < l.low → (d : Sel) → (get_or l.sels (l.low - 1) d).high.line < l.line;
  reaches : l.high < length l.sels → (d : Sel) → l.line ≤ (get_or l.sels l.high d).high.line;
}

abbrev pub decreases-loop-low : goal.decreases-loop-low
decreases-loop-low l = l.high - l.low
