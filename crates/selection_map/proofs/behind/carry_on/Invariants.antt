-- The selections before the next one have gone, each meeting few shifts, and the others stand where they were.
use Rattle.std.proofs.Common.{◌≡◌, length}
use Rattle.selection_map.proofs.PastLemmas.{IsGoingOn}
use Rattle.selection_map.proofs.behind.carry_on.Given as goal

abbrev pub invariant-loop-n : goal.invariant-loop-n
invariant-loop-n l = record {
  going : IsGoingOn l.shifts l.initial.sels l.sels l.n;
  count : length l.sels ≡ length l.initial.sels;
}
