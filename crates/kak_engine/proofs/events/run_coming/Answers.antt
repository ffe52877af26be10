use Rattle.std.proofs.Common.{refl, ◌∙◌}
use Rattle.buffer_store.proofs.MakingLemmas.{on_any}
use Rattle.session_events.specs.declared.event.Event.TheVariants.{Join}
use Rattle.kak_engine.proofs.CrossingLemmas.{after-come, asked-come, honest-come, untold-come, cut-come}
use Rattle.kak_engine.proofs.KeyLemmas.{left-join}
use Rattle.kak_engine.proofs.events.run_coming.Goals as goal

pub returns-clause-leads : goal.returns-clause-leads
returns-clause-leads g c =
    after-come c.args.who c.args.world.now.flat c.join.new.self.flat c.begin_step.new.world.flat c.in_ok-join.ensures.ok c.begin_step.ensures.begins _ _ c.requires.fresh _ c.in_ok-ending.ending c.in_ok-ending.ensures.does
    c.tell.new.world.flat c.end_step.new.self.flat (c.tell.ensures ∙ c.in_ok-told.ensures c.args.who c.hear_coming.new.world.flat) c.end_step.ensures

pub returns-clause-asked : goal.returns-clause-asked
returns-clause-asked g c = asked-come c.args.who c.args.world.now.flat c.join.new.self.flat c.begin_step.new.world.flat c.in_ok-join.ensures.ok c.begin_step.ensures.begins _ _ c.requires.fresh _ c.in_ok-ending.ending c.in_ok-ending.ensures.does

pub returns-clause-honest : goal.returns-clause-honest
returns-clause-honest g c = honest-come c.args.who c.args.world.now.flat c.join.new.self.flat c.begin_step.new.world.flat c.in_ok-join.ensures.ok c.begin_step.ensures.begins _ _ c.requires.fresh _ c.in_ok-ending.ending c.in_ok-ending.ensures.does

pub returns-in_err-ending-clause-cut : goal.returns-in_err-ending-clause-cut
returns-in_err-ending-clause-cut g c =
    on_any c.from_residual-in_err-ending.result _ (cut-come c.args.who c.args.world.now.flat c.join.new.self.flat c.begin_step.new.world.flat c.in_ok-join.ensures.ok c.begin_step.ensures.begins _ _ c.requires.fresh _ c.in_err-ending.ensures.does)

pub returns-in_err-told-clause-cut : goal.returns-in_err-told-clause-cut
returns-in_err-told-clause-cut g c =
    on_any c.from_residual-in_err-told.result _
    (untold-come c.args.who c.args.world.now.flat c.join.new.self.flat c.begin_step.new.world.flat c.in_ok-join.ensures.ok c.begin_step.ensures.begins _ _ c.requires.fresh _ c.in_ok-ending.ending c.in_ok-ending.ensures.does)

pub returns-in_err-join-clause-cut : goal.returns-in_err-join-clause-cut
returns-in_err-join-clause-cut g c = on_any c.from_residual.result _ (left-join c.args.who Join c.args.world.now.flat _ (g.O.Outside.seen c.args.outside.now) refl c.in_err-join.ensures.err)
