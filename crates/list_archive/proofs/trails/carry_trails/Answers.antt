use Rattle.std.proofs.Common.{◌≡◌, ◌<◌, ◌≤◌, length, get_or, set, ap, ◌∙◌, arith}
use Rattle.selection_map.proofs.FrontLemmas.{front-step, front-all}
use Rattle.list_shelf.specs.declared.lag.Lag.{Lag}
use Rattle.list_archive.specs.Trails.{Trail}
use Rattle.list_archive.specs.Trails.{trail_with}
use Rattle.list_archive.specs.Archives.{carried}
use Rattle.list_archive.proofs.CodeLemmas.{trail-carriable, front-one}
use Rattle.list_archive.proofs.trails.carry_trails.Goals as goal

pub carry-requires : goal.carry-requires
carry-requires c =
    let below : c.loop-n.n < length c.args.trails.now.items = omega (arith, c.loop-n-test.true, c.len-n-end.ensures, c.args.trails.now.ok.0) in
    trail-carriable c.args.log.now c.args.shifts.now c.args.trails.now.items c.loop-n.n c.index_mut-trail.result.now c.requires below
    (front-one c.loop-n.n (trail_with (carried c.args.log.now c.args.shifts.now)) c.args.trails.now.items c.loop-n.trails.items c.index_mut-trail.result.now c.loop-n.invariant c.index_mut-trail.ensures.value)

pub loop-n-preserved : goal.loop-n-preserved
loop-n-preserved c =
    let f : Trail Lag → Trail Lag = trail_with (carried c.args.log.now c.args.shifts.now) in
    let below : c.loop-n.n < length c.args.trails.now.items = omega (arith, c.loop-n-test.true, c.len-n-end.ensures, c.args.trails.now.ok.0) in
    let first : c.index_mut-trail.result.now ≡ get_or c.args.trails.now.items c.loop-n.n c.index_mut-trail.result.now = front-one c.loop-n.n f c.args.trails.now.items c.loop-n.trails.items c.index_mut-trail.result.now c.loop-n.invariant c.index_mut-trail.ensures.value in
    ap (λ l. set l c.loop-n.n c.carry.new.self) c.loop-n.invariant
    ∙ front-step c.loop-n.n f c.args.trails.now.items c.carry.new.self c.index_mut-trail.result.now below (c.carry.ensures ∙ ap f first)

pub returns : goal.returns
returns c =
    let past : length c.args.trails.now.items ≤ c.loop-n.n = omega (arith, c.loop-n-test.false, c.len-n-end.ensures, c.args.trails.now.ok.0) in
    c.loop-n.invariant ∙ front-all c.loop-n.n (trail_with (carried c.args.log.now c.args.shifts.now)) c.args.trails.now.items past
