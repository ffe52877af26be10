use Rattle.std.proofs.Common.{◌+◌, ◌++◌, ◌∷◌, [], take, ap, ◌∙◌}
use Rattle.list_shelf.specs.declared.lag.Lag.{Lag}
use Rattle.list_archive.specs.Trails.{Trail}
use Rattle.list_archive.proofs.CodeLemmas.{trail_by}
use Rattle.list_archive.proofs.CountLemmas.{put-behind}
use Rattle.list_archive.proofs.trails.TrailRow.put_behind.Goals as goal

pub returns-clause-ok : goal.returns-clause-ok
returns-clause-ok c =
    put-behind c.self.inside.who c.self.inside.past c.self.inside.lags.items c.truncate.new.self.items c.args.lag c.self.invariant
    (c.truncate.ensures.items ∙ ap (take (c.self.inside.past + 1)) c.in_ok-insert.ensures.items)
    ∙ ap (λ (t : Trail Lag). trail_by t.who (t.past ++ c.args.lag ∷ []) []) c.self.view_is
