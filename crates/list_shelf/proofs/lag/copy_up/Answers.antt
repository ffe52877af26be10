use Rattle.std.proofs.Common.{sym, ap, subst, ◌∙◌}
use Rattle.list_shelf.specs.declared.lag.Lag.{Lag}
use Rattle.list_shelf.specs.Lagging.{seen_by, IsLagging}
use Rattle.list_shelf.proofs.lag.copy_up.Goals as goal

pub catch_up-requires : goal.catch_up-requires
catch_up-requires c = subst (λ s. IsLagging c.args.log.now (record { stamp = c.args.lag.now.stamp; sels = s })) (sym c.in_ok-sels.ensures.ok) c.requires

pub returns-clause-ok : goal.returns-clause-ok
returns-clause-ok c = ap (λ (l : Lag). l.sels) c.catch_up.ensures ∙ ap (λ s. let l : Lag = record { stamp = c.args.lag.now.stamp; sels = s } in seen_by c.args.log.now l) c.in_ok-sels.ensures.ok
