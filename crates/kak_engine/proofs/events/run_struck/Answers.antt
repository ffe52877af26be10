use Rattle.std.proofs.Common.{refl, ◌∙◌}
use Rattle.buffer_store.proofs.MakingLemmas.{on_any}
use Rattle.kak_engine.proofs.KeyLemmas.{after-struck, asked-struck, honest-struck, cut-struck, cut-told}
use Rattle.kak_engine.proofs.events.run_struck.Goals as goal

pub returns-clause-leads : goal.returns-clause-leads
returns-clause-leads g c = after-struck c.args.who c.args.key c.args.world.now.flat c.begin.new.world.flat c.record_key.new.world.flat c.tell.new.world.flat c.end_group.new.world.flat c.end_step.new.self.flat _ _ _ c.in_ok-ending.ending
    c.requires.stays c.begin.ensures.begins c.requires.fresh c.in_ok-ending.ensures.does c.in_ok-record_key.ensures.ok
    (c.tell.ensures ∙ c.in_ok-told.ensures c.args.who c.record_key.new.world.flat) c.end_group.ensures c.end_step.ensures

pub returns-clause-asked : goal.returns-clause-asked
returns-clause-asked g c = asked-struck c.args.who c.args.key c.args.world.now.flat c.begin.new.world.flat _ _ _ c.in_ok-ending.ending c.requires.stays c.begin.ensures.begins c.requires.fresh c.in_ok-ending.ensures.does

pub returns-clause-honest : goal.returns-clause-honest
returns-clause-honest g c = honest-struck c.args.who c.args.key c.args.world.now.flat c.begin.new.world.flat _ _ _ c.in_ok-ending.ending c.requires.stays c.begin.ensures.begins c.requires.fresh c.in_ok-ending.ensures.does

pub returns-in_err-ending-clause-cut : goal.returns-in_err-ending-clause-cut
returns-in_err-ending-clause-cut g c = on_any c.from_residual.result _ (cut-struck c.args.who c.args.key c.args.world.now.flat c.begin.new.world.flat _ _ _ c.requires.stays c.begin.ensures.begins c.in_err-ending.ensures.does)

pub returns-in_err-told-clause-cut : goal.returns-in_err-told-clause-cut
returns-in_err-told-clause-cut g c =
    on_any c.from_residual-in_err-told.result _ (cut-told c.args.who c.args.key c.args.world.now.flat c.begin.new.world.flat c.strike_key.new.world.flat _ _ _ c.in_ok-ending.ending c.requires.stays c.begin.ensures.begins c.requires.fresh refl c.in_ok-ending.ensures.does)

pub returns-in_err-record_key-clause-cut : goal.returns-in_err-record_key-clause-cut
returns-in_err-record_key-clause-cut g c =
    on_any c.from_residual-in_err-record_key.result _ (cut-told c.args.who c.args.key c.args.world.now.flat c.begin.new.world.flat c.record_key.new.world.flat _ _ _ c.in_ok-ending.ending c.requires.stays c.begin.ensures.begins c.requires.fresh c.in_err-record_key.ensures.err c.in_ok-ending.ensures.does)
