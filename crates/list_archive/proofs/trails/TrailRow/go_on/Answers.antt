use Rattle.std.proofs.Common.{ap, sym, subst, ◌∙◌}
use Rattle.list_shelf.specs.declared.lag.Lag.{Lag}
use Rattle.list_archive.specs.Trails.{Trail}
use Rattle.list_archive.specs.Archives.{newest_lags, AreAllLagging}
use Rattle.list_archive.proofs.trails.TrailRow.go_on.Goals as goal

pub keep_newest-requires : goal.keep_newest-requires
keep_newest-requires c = subst (λ (t : Trail Lag). AreAllLagging c.args.log.now t.past) (sym c.in_ok-put_behind.ensures.ok) c.requires

pub returns-clause-ok : goal.returns-clause-ok
returns-clause-ok c =
    c.keep_newest.ensures
    ∙ ap (λ (t : Trail Lag). let x : Trail Lag = record { who = t.who; past = newest_lags c.args.log.now t.past; ahead = t.ahead } in x) c.in_ok-put_behind.ensures.ok
