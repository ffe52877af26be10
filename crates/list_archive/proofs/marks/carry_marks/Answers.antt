use Rattle.std.proofs.Common.{◌≡◌, ◌<◌, ◌≤◌, length, get_or, set, ap, ◌∙◌, arith}
use Rattle.selection_map.proofs.FrontLemmas.{front-step, front-all}
use Rattle.list_shelf.specs.declared.lag.Lag.{Lag}
use Rattle.list_archive.specs.Trails.{Mark}
use Rattle.list_archive.specs.Trails.{mark_with}
use Rattle.list_archive.specs.Archives.{carried}
use Rattle.list_archive.proofs.CodeLemmas.{mark-carriable, front-one}
use Rattle.list_archive.proofs.marks.carry_marks.Goals as goal

pub carry-requires : goal.carry-requires
carry-requires c =
    let below : c.loop-n.n < length c.args.marks.now.items = omega (arith, c.loop-n-test.true, c.len-n-end.ensures, c.args.marks.now.ok.0) in
    mark-carriable c.args.log.now c.args.shifts.now c.args.marks.now.items c.loop-n.n c.index_mut-mark.result.now c.requires below
    (front-one c.loop-n.n (mark_with (carried c.args.log.now c.args.shifts.now)) c.args.marks.now.items c.loop-n.marks.items c.index_mut-mark.result.now c.loop-n.invariant c.index_mut-mark.ensures.value)

pub loop-n-preserved : goal.loop-n-preserved
loop-n-preserved c =
    let f : Mark Lag → Mark Lag = mark_with (carried c.args.log.now c.args.shifts.now) in
    let below : c.loop-n.n < length c.args.marks.now.items = omega (arith, c.loop-n-test.true, c.len-n-end.ensures, c.args.marks.now.ok.0) in
    let first : c.index_mut-mark.result.now ≡ get_or c.args.marks.now.items c.loop-n.n c.index_mut-mark.result.now = front-one c.loop-n.n f c.args.marks.now.items c.loop-n.marks.items c.index_mut-mark.result.now c.loop-n.invariant c.index_mut-mark.ensures.value in
    ap (λ l. set l c.loop-n.n c.carry.new.self) c.loop-n.invariant
    ∙ front-step c.loop-n.n f c.args.marks.now.items c.carry.new.self c.index_mut-mark.result.now below (c.carry.ensures ∙ ap f first)

pub returns : goal.returns
returns c =
    let past : length c.args.marks.now.items ≤ c.loop-n.n = omega (arith, c.loop-n-test.false, c.len-n-end.ensures, c.args.marks.now.ok.0) in
    c.loop-n.invariant ∙ front-all c.loop-n.n (mark_with (carried c.args.log.now c.args.shifts.now)) c.args.marks.now.items past
