use Rattle.std.proofs.Common.{◌≡◌, ◌+◌, List, ◌∷◌, drop, sym, ap, ◌∙◌}
use Rattle.std.proofs.lemmas.List.{drop_more, drop_all}
use Rattle.list_shelf.specs.declared.lag.Lag.{Lag}
use Rattle.list_archive.specs.Archives.{least_lag}
use Rattle.list_archive.proofs.lags.least_lag.Goals as goal

pub loop-lag-preserved : goal.loop-lag-preserved
loop-lag-preserved c =
    let rest : List (Lag) = drop (c.loop-lag.lag-index + 1) c.args.lags.now in
    let next : drop c.loop-lag.lag-index c.args.lags.now ≡ c.lag-item.result ∷ rest = drop_more c.args.lags.now c.loop-lag.lag-index c.lag-item.result c.loop-lag-test.true ∙ ap (λ r. r ∷ rest) (sym c.lag-item.is) in
    ap (λ n. least_lag n rest) c.lesser-least.ensures ∙ sym (ap (least_lag c.loop-lag.least) next) ∙ c.loop-lag.invariant

pub returns : goal.returns
returns c = sym (ap (least_lag c.loop-lag.least) (drop_all c.loop-lag.lag-index c.args.lags.now c.loop-lag-test.false)) ∙ c.loop-lag.invariant
