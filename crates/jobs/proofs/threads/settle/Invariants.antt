use Rattle.std.proofs.Common.{◌≡◌, map, length, ◌-◌}
use Rattle.jobs.proofs.threads.settle.Given as goal

-- the jobs stand as before
abbrev pub invariant-loop-next : goal.invariant-loop-next
invariant-loop-next g l = map g.H.Handle.job l.runs ≡ map g.H.Handle.job l.initial.runs

abbrev pub decreases-loop-next : goal.decreases-loop-next
decreases-loop-next g l = length l.places.items - l.next
