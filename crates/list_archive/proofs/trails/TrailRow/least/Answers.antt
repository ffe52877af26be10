use Rattle.std.proofs.Common.{ap, ◌∙◌}
use Rattle.list_shelf.specs.declared.lag.Lag.{Lag}
use Rattle.list_archive.specs.Trails.{Trail}
use Rattle.list_archive.specs.Archives.{least_lag}
use Rattle.list_archive.proofs.CodeLemmas.{least-both}
use Rattle.list_archive.proofs.trails.TrailRow.least.Goals as goal

pub returns : goal.returns
returns c =
    c.least_lag.ensures
    ∙ ap (least_lag c.args.stamp) c.as_slice.ensures.value
    ∙ least-both c.args.stamp c.self.inside.past c.self.inside.lags.items
    ∙ ap (λ (t : Trail Lag). least_lag (least_lag c.args.stamp t.past) t.ahead) c.self.view_is
