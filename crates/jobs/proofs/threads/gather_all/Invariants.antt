use Rattle.std.proofs.Common.{◌≡◌, ◌+◌, ◌≤◌, ◌++◌, map, vec_len, vec_capacity}
use Rattle.std.specs.Vec.Iter.{into_iter_items, into_iter_len}
use Rattle.jobs.specs.Meets.{Meet}
use Rattle.jobs.proofs.threads.gather_all.Given as goal

-- the results so far are those of the jobs so far, and there is room for the others
abbrev pub invariant-loop-run-2 : goal.invariant-loop-run-2
invariant-loop-run-2 g l = record {
  jobs : into_iter_items l.initial.run-iterator ≡ l.yielded ++ into_iter_items l.run-iterator;
  meet : Meet g.J.Job.gives (map g.H.Handle.job l.yielded) l.all.items;
  room : vec_len l.all + into_iter_len l.run-iterator ≤ vec_capacity l.all;
}
