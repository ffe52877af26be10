use Rattle.std.proofs.Common.{rules, List, [], ◌∷◌, ◌++◌, All, sym, subst}
use Rattle.std.proofs.lemmas.List.Elements.{All-tail}
use Rattle.std.specs.Vec.Iter.{into_iter_items}
use Rattle.jobs.specs.Meets.{Meet}
use Rattle.jobs.proofs.MeetLemmas.{meet-one, grows}
use Rattle.jobs.proofs.in_turn.run_all.Goals as goal

pub loop-job-preserved : goal.loop-job-preserved
loop-job-preserved g c = All-tail g.J.Job.ready c.in-Some.job (into_iter_items c.next.new.self) (subst (λ (xs : List g.row.J.Denot). All g.J.Job.ready xs) c.in-Some.ensures.steps.0 c.loop-job.invariant)

pub loop-job-2-preserved : goal.loop-job-2-preserved
loop-job-2-preserved g c = record {
  jobs = grows _ c.loop-job-2.yielded _ _ c.in-Some-job.job c.loop-job-2.invariant.jobs c.in-Some-job.ensures.steps.0;
  meet = subst (λ (all : List g.row.J-Gives.Denot). Meet g.J.Job.gives (c.loop-job-2.yielded ++ c.in-Some-job.job ∷ []) all) (sym c.in-Ok-push.ensures.items) (meet-one g.J.Job.gives c.loop-job-2.yielded c.loop-job-2.all.items c.in-Some-job.job c.run-in-loop-job-2.result c.loop-job-2.invariant.meet c.run-in-loop-job-2.ensures);
  ready = All-tail g.J.Job.ready c.in-Some-job.job (into_iter_items c.next-in-loop-job-2.new.self) (subst (λ (xs : List g.row.J.Denot). All g.J.Job.ready xs) c.in-Some-job.ensures.steps.0 c.loop-job-2.invariant.ready);
  room = search rules;
}
