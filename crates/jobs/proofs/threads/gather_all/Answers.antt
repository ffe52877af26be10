use Rattle.std.proofs.Common.{rules}
use Rattle.jobs.proofs.MeetLemmas.{meet-one_by, grows}
use Rattle.jobs.proofs.threads.gather_all.Goals as goal

pub loop-run-2-preserved : goal.loop-run-2-preserved
loop-run-2-preserved g c = record {
  jobs = grows _ c.loop-run-2.yielded _ _ c.in-Some-run.run' c.loop-run-2.invariant.jobs c.in-Some-run.ensures.steps.0;
  meet = meet-one_by g.H.Handle.job g.J.Job.gives c.loop-run-2.yielded c.loop-run-2.all.items c.push.new.self.items c.in-Some-run.run' c.end-in-loop-run-2.result c.in-Ok-push.ensures.items c.loop-run-2.invariant.meet c.end-in-loop-run-2.ensures;
  room = search rules;
}
