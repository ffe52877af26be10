use Rattle.std.proofs.Common.{◌<◌, ◌≤◌, length, refl, arith}
use Rattle.text_trials.proofs.ShelfTrialLemmas.{move-small, move-next, move-all}
use Rattle.text_trials.proofs.list_shelf_tests.move_each.Goals as goal

pub loop-n-init : goal.loop-n-init
loop-n-init c = record { many = refl; moved = λ old new one held. (tt, held) }

pub map_sels-requires : goal.map_sels-requires
map_sels-requires c =
    let below : c.loop-n.n < length c.args.lists.now.items = omega (arith, c.loop-n-test.true, c.len-n-end.ensures, c.args.lists.now.ok.0) in
    move-small c.args.shift.now c.args.lists.now.items c.loop-n.lists.items c.loop-n.n c.index_mut-list.result.now c.index_mut-list.result.now c.requires c.loop-n.invariant below c.index_mut-list.ensures.value

pub loop-n-preserved : goal.loop-n-preserved
loop-n-preserved c =
    let below : c.loop-n.n < length c.args.lists.now.items = omega (arith, c.loop-n-test.true, c.len-n-end.ensures, c.args.lists.now.ok.0) in
    move-next c.args.shift.now c.args.lists.now.items c.loop-n.lists.items c.loop-n.n c.index_mut-list.result.now c.index_mut-list.result.now c.map_sels.new.sels c.loop-n.invariant below c.index_mut-list.ensures.value c.map_sels.ensures.settles

pub returns : goal.returns
returns c = move-all c.args.shift.now c.args.lists.now.items c.loop-n.lists.items c.loop-n.n c.loop-n.invariant (omega (arith, c.loop-n-test.false, c.len-n-end.ensures, c.args.lists.now.ok.0))
