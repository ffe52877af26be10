use Rattle.std.proofs.Common.{ap, ◌∙◌, arith}
use Rattle.change_list.specs.Logs.{Logged}
use Rattle.list_shelf.specs.declared.holder.Holder.TheVariants.{Of}
use Rattle.list_shelf.specs.declared.lag.Lag.{Lag}
use Rattle.list_shelf.specs.Lagging.{up_to_date}
use Rattle.list_shelf.specs.Shelves.{with_lag_of}
use Rattle.list_archive.proofs.ForwardLemmas.{some-forward}
use Rattle.list_archive.proofs.trails.TrailRow.step_forward.Goals as goal

pub returns : goal.returns
returns c =
    some-forward c.self.inside.who c.self.inside.past c.self.inside.lags.items c.index_mut-next.result.now c.swap_lag.new.lag c.args.self.now c.args.shelf.now c.swap_lag.new.self
    c.self.view_is (omega (arith, c.if-self-len.false, c.len.ensures, c.self.inside.lags.ok.0)) c.index_mut-next.ensures.value c.swap_lag.ensures.lag
    (c.swap_lag.ensures.shelf
    ∙ ap (λ (lag : Lag). with_lag_of (Of c.self.inside.who) lag c.args.shelf.now) (c.catch_up.ensures ∙ ap (λ (log : Logged). up_to_date log c.index_mut-next.result.now) c.log.ensures))
