use Rattle.std.proofs.Common.{ap, ap₂, ◌∙◌}
use Rattle.change_list.specs.Logs.{stamp_of}
use Rattle.list_shelf.specs.declared.lag.Lag.{Lag}
use Rattle.list_archive.proofs.archive.Archive.own_copy.Goals as goal

pub returns-clause-ok : goal.returns-clause-ok
returns-clause-ok c =
    ap₂ (λ n s. let x : Lag = record { stamp = n; sels = s } in x) (c.stamp.ensures.value ∙ ap stamp_of c.log.ensures) c.in_ok-sels.ensures.ok
