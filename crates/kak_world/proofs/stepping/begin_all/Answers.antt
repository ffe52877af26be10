use Rattle.std.proofs.Common.{◌≡◌, ◌<◌, ◌≤◌, ◌+◌, length, ap, ◌∙◌, arith, set, get_or}
use Rattle.std.specs.Prelude.{option_map}
use Rattle.std.specs.declared.option.Option.{Option}
use Rattle.selection_map.proofs.FrontLemmas.{mapped_front, front-length, front-at, front-step, front-all}
use Rattle.kak_world.specs.Seen.{KeptBuffer, begun_in}
use Rattle.kak_world.proofs.stepping.begin_all.Goals as goal

pub loop-n-preserved : goal.loop-n-preserved
loop-n-preserved c =
    let f : Option KeptBuffer → Option KeptBuffer = option_map begun_in in
    let below : c.loop-n.n < length c.args.buffers.now.items = omega (arith, c.loop-n-test.true, c.len-n-end.ensures, c.args.buffers.now.ok.0) in
    let front : set c.loop-n.buffers.items c.loop-n.n c.begin_in.new.slot ≡ mapped_front (c.loop-n.n + 1) f c.args.buffers.now.items =
    ap (λ xs. set xs c.loop-n.n c.begin_in.new.slot) c.loop-n.invariant.front
    ∙ front-step c.loop-n.n f c.args.buffers.now.items c.begin_in.new.slot c.index_mut.result.now below
    (c.begin_in.ensures ∙ ap f (c.index_mut.ensures.value ∙ ap (λ xs. get_or xs c.loop-n.n c.index_mut.result.now) c.loop-n.invariant.front ∙ front-at c.loop-n.n f c.args.buffers.now.items c.index_mut.result.now)) in
    record { front = front; count = ap length front ∙ front-length (c.loop-n.n + 1) f c.args.buffers.now.items }

pub returns : goal.returns
returns c =
    let past : length c.args.buffers.now.items ≤ c.loop-n.n = omega (arith, c.loop-n-test.false, c.len-n-end.ensures, c.args.buffers.now.ok.0) in
    c.loop-n.invariant.front ∙ front-all c.loop-n.n (option_map begun_in) c.args.buffers.now.items past
