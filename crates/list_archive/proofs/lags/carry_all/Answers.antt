use Rattle.std.proofs.Common.{◌≡◌, ◌<◌, ◌≤◌, length, get_or, set, ap, ◌∙◌, arith}
use Rattle.selection_map.proofs.FrontLemmas.{front-step, front-all}
use Rattle.list_shelf.specs.declared.lag.Lag.{Lag}
use Rattle.list_archive.specs.Archives.{carried}
use Rattle.list_archive.proofs.CodeLemmas.{lag-carriable, front-one}
use Rattle.list_archive.proofs.lags.carry_all.Goals as goal

pub carry-requires : goal.carry-requires
carry-requires c =
    let below : c.loop-n.n < length c.args.lags.now.items = omega (arith, c.loop-n-test.true, c.len-n-end.ensures, c.args.lags.now.ok.0) in
    lag-carriable c.args.log.now c.args.shifts.now c.args.lags.now.items c.loop-n.n c.index_mut-lag.result.now c.requires below
    (front-one c.loop-n.n (carried c.args.log.now c.args.shifts.now) c.args.lags.now.items c.loop-n.lags.items c.index_mut-lag.result.now c.loop-n.invariant c.index_mut-lag.ensures.value)

pub loop-n-preserved : goal.loop-n-preserved
loop-n-preserved c =
    let f : Lag → Lag = carried c.args.log.now c.args.shifts.now in
    let below : c.loop-n.n < length c.args.lags.now.items = omega (arith, c.loop-n-test.true, c.len-n-end.ensures, c.args.lags.now.ok.0) in
    let first : c.index_mut-lag.result.now ≡ get_or c.args.lags.now.items c.loop-n.n c.index_mut-lag.result.now = front-one c.loop-n.n f c.args.lags.now.items c.loop-n.lags.items c.index_mut-lag.result.now c.loop-n.invariant c.index_mut-lag.ensures.value in
    ap (λ l. set l c.loop-n.n c.carry.new.lag) c.loop-n.invariant
    ∙ front-step c.loop-n.n f c.args.lags.now.items c.carry.new.lag c.index_mut-lag.result.now below (c.carry.ensures ∙ ap f first)

pub returns : goal.returns
returns c =
    let past : length c.args.lags.now.items ≤ c.loop-n.n = omega (arith, c.loop-n-test.false, c.len-n-end.ensures, c.args.lags.now.ok.0) in
    c.loop-n.invariant ∙ front-all c.loop-n.n (carried c.args.log.now c.args.shifts.now) c.args.lags.now.items past
