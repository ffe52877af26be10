use Rattle.buffer_store.proofs.MakingLemmas.{on_any}
use Rattle.kak_engine.proofs.KeyLemmas.{left-refresh}
use Rattle.kak_engine.proofs.events.run_event.Goals as goal

pub returns-in_err-redraw-in-Refresh-clause-cut : goal.returns-in_err-redraw-in-Refresh-clause-cut
returns-in_err-redraw-in-Refresh-clause-cut g c = on_any c.from_residual-in_err-redraw-in-Refresh.result _ (left-refresh c.args.who c.args.event.now _ c.args.world.now.flat _ (g.O.Outside.seen c.args.outside.now) c.in-Refresh.is c.in_err-redraw-in-Refresh.ensures.err)
