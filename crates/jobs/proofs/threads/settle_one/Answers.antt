use Rattle.std.proofs.Math.Seq.{map-set_same}
use Rattle.jobs.proofs.threads.settle_one.Goals as goal

-- the job of the run that was settled is the same
pub returns : goal.returns
returns g c = map-set_same g.H.Handle.job c.args.runs.now c.args.place c.settle.new.self c.index-runs-place.result c.settle.ensures.job
