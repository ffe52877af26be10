use Rattle.std.proofs.Common.{ap, sym, subst, ◌∙◌}
use Rattle.selection_map.specs.Catching.{IsCatchable}
use Rattle.list_shelf.specs.declared.lag.Lag.{Lag}
use Rattle.list_shelf.specs.Lagging.{gone_through}
use Rattle.list_archive.proofs.CodeLemmas.{carriable-lags, carriable-up}
use Rattle.list_archive.proofs.lags.carry.Goals as goal

pub catch_up-requires : goal.catch_up-requires
catch_up-requires c = carriable-lags c.args.log.now c.args.shifts.now c.args.lag.now c.requires

pub go_through-requires : goal.go_through-requires
go_through-requires c = subst (λ (l : Lag). IsCatchable c.args.shifts.now l.sels) (sym c.catch_up.ensures) (carriable-up c.args.log.now c.args.shifts.now c.args.lag.now c.requires)

pub returns : goal.returns
returns c = ap (λ (l : Lag). let x : Lag = record { stamp = 0; sels = l.sels } in x) (c.go_through.ensures ∙ ap (gone_through c.args.shifts.now) c.catch_up.ensures)
