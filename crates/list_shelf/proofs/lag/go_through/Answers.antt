use Rattle.std.proofs.Common.{ap}
use Rattle.list_shelf.specs.declared.lag.Lag.{Lag}
use Rattle.list_shelf.proofs.CaughtLemmas.{caught-only}
use Rattle.list_shelf.proofs.lag.go_through.Goals as goal

pub returns : goal.returns
returns c = ap (λ s. let x : Lag = record { stamp = c.args.lag.now.stamp; sels = s } in x) (caught-only c.args.shifts.now c.args.lag.now.sels c.catch_up.new.sels c.requires c.catch_up.ensures.caught)
