use Rattle.std.proofs.Common.{length, ap, arith}
use Rattle.buffer_store.proofs.MakingLemmas.{on_any}
use Rattle.kak_engine.proofs.KeyLemmas.{left-after}
use Rattle.kak_engine.proofs.PresenceLemmas.{few-after}
use Rattle.kak_engine.proofs.engine.run_with_places.Goals as goal

pub overflow_add-client_count : goal.overflow_add-client_count
overflow_add-client_count g c = omega (arith, c.client_count.ensures, ap (λ f. length f.clients) c.in_ok-output.ensures.leads, few-after c.args.who c.args.event.now c.run_event.new.answers c.args.world.now.flat c.requires.runs c.requires.few)

pub returns-in_err-reserve-clause-cut : goal.returns-in_err-reserve-clause-cut
returns-in_err-reserve-clause-cut g c = on_any c.from_residual-in_err-reserve.result _ (left-after c.args.who c.args.event.now c.run_event.new.answers c.args.world.now.flat _ _ _ c.in_ok-output.ensures.honest c.in_ok-output.ensures.leads)
