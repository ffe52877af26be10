use Rattle.std.proofs.Common.{◌≡◌, ◌+◌, ◌≤◌, ◌++◌, All, vec_len, vec_capacity}
use Rattle.std.specs.Vec.Iter.{into_iter_items, into_iter_len}
use Rattle.jobs.specs.Meets.{Meet}
use Rattle.jobs.proofs.in_turn.run_all.Given as goal

-- the jobs that are left may be run
abbrev pub invariant-loop-job : goal.invariant-loop-job
invariant-loop-job g l = All g.J.Job.ready (into_iter_items l.job-iterator)

-- the results so far are those of the jobs so far, and there is room for the others
abbrev pub invariant-loop-job-2 : goal.invariant-loop-job-2
invariant-loop-job-2 g l = record {
  jobs : into_iter_items l.initial.job-iterator ≡ l.yielded ++ into_iter_items l.job-iterator;
  meet : Meet g.J.Job.gives l.yielded l.all.items;
  ready : All g.J.Job.ready (into_iter_items l.job-iterator);
  room : vec_len l.all + into_iter_len l.job-iterator ≤ vec_capacity l.all;
}
