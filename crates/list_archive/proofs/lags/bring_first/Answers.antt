use Rattle.std.proofs.Common.{◌≡◌, ◌<◌, length, get_or, set, ap, ◌∙◌, arith}
use Rattle.selection_map.proofs.FrontLemmas.{mapped_front, front-step}
use Rattle.list_shelf.specs.declared.lag.Lag.{Lag}
use Rattle.list_shelf.specs.Lagging.{up_to_date}
use Rattle.list_archive.proofs.CodeLemmas.{front-one, front-made}
use Rattle.list_archive.proofs.CountLemmas.{front-lags}
use Rattle.list_archive.proofs.lags.bring_first.Goals as goal

pub catch_up-requires : goal.catch_up-requires
catch_up-requires c =
    front-lags c.args.log.now c.args.lags.now.items c.args.count c.loop-n.n c.index_mut-lag.result.now c.requires.lagging c.requires.within c.loop-n-test.true
    (front-one c.loop-n.n (up_to_date c.args.log.now) c.args.lags.now.items c.loop-n.lags.items c.index_mut-lag.result.now c.loop-n.invariant c.index_mut-lag.ensures.value)

pub loop-n-preserved : goal.loop-n-preserved
loop-n-preserved c =
    let f : Lag → Lag = up_to_date c.args.log.now in
    let below : c.loop-n.n < length c.args.lags.now.items = omega (arith, c.loop-n-test.true, c.requires.within) in
    let first : c.index_mut-lag.result.now ≡ get_or c.args.lags.now.items c.loop-n.n c.index_mut-lag.result.now = front-one c.loop-n.n f c.args.lags.now.items c.loop-n.lags.items c.index_mut-lag.result.now c.loop-n.invariant c.index_mut-lag.ensures.value in
    ap (λ l. set l c.loop-n.n c.catch_up.new.lag) c.loop-n.invariant
    ∙ front-step c.loop-n.n f c.args.lags.now.items c.catch_up.new.lag c.index_mut-lag.result.now below (c.catch_up.ensures ∙ ap f first)

pub returns : goal.returns
returns c =
    let all : c.loop-n.n ≡ c.args.count = omega (arith, c.loop-n-test.false, c.loop-n.auto.n-end) in
    c.loop-n.invariant
    ∙ ap (λ k. mapped_front k (up_to_date c.args.log.now) c.args.lags.now.items) all
    ∙ front-made c.args.count (up_to_date c.args.log.now) c.args.lags.now.items
