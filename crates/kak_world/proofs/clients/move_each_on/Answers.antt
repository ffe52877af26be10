use Rattle.std.proofs.Common.{◌≡◌, ◌<◌, ◌≤◌, ◌+◌, length, ap, ◌∙◌, arith, set, get_or}
use Rattle.selection_map.proofs.FrontLemmas.{mapped_front, front-length, front-at, front-step, front-all}
use Rattle.kak_world.specs.declared.clients.Client.{Client}
use Rattle.kak_world.specs.Dropping.{moved_on}
use Rattle.kak_world.proofs.clients.move_each_on.Goals as goal

pub loop-i-preserved : goal.loop-i-preserved
loop-i-preserved c =
    let f : Client → Client = moved_on c.args.n c.args.to in
    let below : c.loop-i.i < length c.args.rows.now.items = omega (arith, c.loop-i-test.true, c.len-i-end.ensures, c.args.rows.now.ok.0) in
    let front : set c.loop-i.rows.items c.loop-i.i c.move_on.new.client ≡ mapped_front (c.loop-i.i + 1) f c.args.rows.now.items =
    ap (λ xs. set xs c.loop-i.i c.move_on.new.client) c.loop-i.invariant.front
    ∙ front-step c.loop-i.i f c.args.rows.now.items c.move_on.new.client c.index_mut.result.now below
    (c.move_on.ensures ∙ ap f (c.index_mut.ensures.value ∙ ap (λ xs. get_or xs c.loop-i.i c.index_mut.result.now) c.loop-i.invariant.front ∙ front-at c.loop-i.i f c.args.rows.now.items c.index_mut.result.now)) in
    record { front = front; count = ap length front ∙ front-length (c.loop-i.i + 1) f c.args.rows.now.items }

pub returns : goal.returns
returns c =
    let past : length c.args.rows.now.items ≤ c.loop-i.i = omega (arith, c.loop-i-test.false, c.len-i-end.ensures, c.args.rows.now.ok.0) in
    c.loop-i.invariant.front ∙ front-all c.loop-i.i (moved_on c.args.n c.args.to) c.args.rows.now.items past
