use Rattle.std.proofs.Common.{ap}
use Rattle.list_shelf.specs.declared.lag.Lag.{Lag}
use Rattle.list_shelf.proofs.lag.renew.Goals as goal

pub returns : goal.returns
returns c = ap (λ (l : Lag). let x : Lag = record { stamp = 0; sels = l.sels } in x) c.catch_up.ensures
