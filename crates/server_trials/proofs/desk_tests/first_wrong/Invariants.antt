use Rattle.std.specs.Prelude.{◌≡◌}
use Rattle.server_trials.proofs.desk_tests.first_wrong.Given as goal

-- no row so far changed what the seats keep
abbrev pub invariant-loop-row : goal.invariant-loop-row
invariant-loop-row g l = record {
  one : g.S.Seat.kept l.first ≡ g.S.Seat.kept l.fn.first;
  other : g.S.Seat.kept l.second ≡ g.S.Seat.kept l.fn.second;
}
