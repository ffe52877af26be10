use Rattle.std.proofs.Common.{sym, ap, ◌∙◌}
use Rattle.kak_engine.proofs.KeyLemmas.{after-leaving, asked-leaving, honest-leaving}
use Rattle.kak_engine.proofs.events.run_key.Goals as goal

pub returns-then-own-clause-leads : goal.returns-then-own-clause-leads
returns-then-own-clause-leads g c = sym (after-leaving c.args.who c.args.key _ c.args.world.now.flat (ap (λ o. o.leaving) (sym c.own-own.ensures) ∙ c.if-own.true))

pub returns-then-own-clause-asked : goal.returns-then-own-clause-asked
returns-then-own-clause-asked g c = asked-leaving c.args.who c.args.key _ c.args.world.now.flat (ap (λ o. o.leaving) (sym c.own-own.ensures) ∙ c.if-own.true) c.requires.fresh

pub returns-then-own-clause-honest : goal.returns-then-own-clause-honest
returns-then-own-clause-honest g c = honest-leaving c.args.who c.args.key _ c.args.world.now.flat _ (ap (λ o. o.leaving) (sym c.own-own.ensures) ∙ c.if-own.true) c.requires.fresh
