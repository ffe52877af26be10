use Rattle.std.proofs.Common.{◌+◌, ◌≤◌, ◌<◌, length, arith, subst, sym}
use Rattle.face_grounds.specs.Grounds.{face_in, over_all}
use Rattle.face_grounds.proofs.LayLemmas.{IsLaid, laid-none, laid-more, laid-all, gap-is, on-is}
use Rattle.face_grounds.proofs.overlay.lay.Goals as goal

pub loop-over-init : goal.loop-over-init
loop-over-init c = laid-none c.args.runs.now c.args.rest c.args.overs.now c.args.out.now.items c.requires.ascending c.requires.none

pub loop-over-preserved : goal.loop-over-preserved
loop-over-preserved c =
    let i = c.loop-over.invariant in
    let l : c.loop-over.over-index < length c.args.overs.now = omega (arith, c.loop-over-test.true) in
    subst (λ p. IsLaid c.args.runs.now c.args.rest c.args.overs.now (c.loop-over.over-index + 1) c.lay_one.new.out.items p c.in_ok-reach.reach.run) (sym c.in_ok-reach.ensures.place)
    (laid-more c.args.runs.now c.args.rest c.args.overs.now c.loop-over.over-index c.loop-over.out.items c.lay_one.new.out.items c.loop-over.reach.place c.loop-over.reach.run c.in_ok-reach.reach.run _ i l
    (c.in_ok-reach.ensures.ahead i.ahead)
    (c.in_ok-reach.ensures.drawn (λ n. over_all c.args.overs.now n (face_in c.args.runs.now c.args.rest n)) i.drawn i.ahead
    (gap-is c.args.runs.now c.args.rest c.args.overs.now c.loop-over.over-index c.loop-over.out.items c.loop-over.reach.place c.loop-over.reach.run _ i l)
    (on-is c.args.runs.now c.args.rest c.args.overs.now c.loop-over.over-index c.loop-over.out.items c.loop-over.reach.place c.loop-over.reach.run _ i l)))

pub returns : goal.returns
returns c =
    let i = c.loop-over.invariant in
    let all : length c.args.overs.now ≤ c.loop-over.over-index = omega (arith, c.loop-over-test.false) in
    c.in_ok-finish.ensures (λ n. over_all c.args.overs.now n (face_in c.args.runs.now c.args.rest n)) i.drawn i.ahead
    (laid-all c.args.runs.now c.args.rest c.args.overs.now c.loop-over.over-index c.loop-over.out.items c.loop-over.reach.place c.loop-over.reach.run i all)
