use Rattle.buffer_store.proofs.MakingLemmas.{on_any}
use Rattle.kak_engine.proofs.CrossingLemmas.{after-go, asked-go, honest-go, cut-go}
use Rattle.kak_engine.proofs.events.run_going.Goals as goal

pub returns-clause-leads : goal.returns-clause-leads
returns-clause-leads g c =
    after-go c.args.who c.args.world.now.flat c.begin_step.new.world.flat c.begin_step.ensures.begins _ _ c.requires.fresh _ _ c.in_ok-_ending.ensures.does c.end_step.new.self.flat c.leave.new.self.flat c.end_step.ensures c.leave.ensures

pub returns-clause-asked : goal.returns-clause-asked
returns-clause-asked g c = asked-go c.args.who c.args.world.now.flat c.begin_step.new.world.flat c.begin_step.ensures.begins _ _ c.requires.fresh _ _ c.in_ok-_ending.ensures.does

pub returns-clause-honest : goal.returns-clause-honest
returns-clause-honest g c = honest-go c.args.who c.args.world.now.flat c.begin_step.new.world.flat c.begin_step.ensures.begins _ _ c.requires.fresh _ _ c.in_ok-_ending.ensures.does

pub returns-in_err-_ending-clause-cut : goal.returns-in_err-_ending-clause-cut
returns-in_err-_ending-clause-cut g c =
    on_any c.from_residual.result _ (cut-go c.args.who c.args.world.now.flat c.begin_step.new.world.flat c.begin_step.ensures.begins _ _ c.requires.fresh _ c.in_err-_ending.ensures.does)
