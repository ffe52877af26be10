-- The list went through the shifts before the next one, and outside the part between two places none moved.
use Rattle.std.proofs.Common.{◌≡◌, length, ◌-◌, ◌≤◌, take, drop, map}
use Rattle.selection_map.specs.Reaching.{through}
use Rattle.selection_map.proofs.catching.catch_all.Given as goal

abbrev pub invariant-loop-start : goal.invariant-loop-start
invariant-loop-start g l = record {
  few : l.start ≤ length l.shifts;
  each : l.sels.list ≡ map (through (take l.start l.shifts)) l.initial.sels.list;
  main : l.sels.main ≡ l.initial.sels.main;
  front : take l.low l.sels.list ≡ take l.low l.initial.sels.list;
  others : drop l.high l.sels.list ≡ drop l.high l.initial.sels.list;
}

abbrev pub decreases-loop-start : goal.decreases-loop-start
decreases-loop-start g l = length l.shifts - l.start
