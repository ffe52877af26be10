use Rattle.std.proofs.Common.{◌≡◌, ◌<◌, ◌+◌, length, take, ap, arith}
use Rattle.text_model.specs.Texts.{lines_of, joined}
use Rattle.text_model.proofs.PlaceLemmas.{start-more, offset-le}
use Rattle.line_buffer.proofs.FlatLemmas.{line-le-count, start-small, ordered_lines}
use Rattle.buffer_store.proofs.limits.count.Goals as goal

pub overflow_add-all : goal.overflow_add-all
overflow_add-all c =
    let inside : c.loop-n.n < length (lines_of c.args.lines.now) = omega (arith, c.loop-n-test.true, line-le-count c.args.lines.now c.args.to c.requires.to) in
    omega (arith, c.loop-n.invariant, ap length c.line.ensures.value, start-more (lines_of c.args.lines.now) c.loop-n.n inside, start-small c.args.lines.now (c.loop-n.n + 1) c.line.ensures.valid (omega arith), offset-le c.args.lines.now c.args.to c.requires.to, c.line.ensures.valid.small)

pub loop-n-preserved : goal.loop-n-preserved
loop-n-preserved c =
    let inside : c.loop-n.n < length (lines_of c.args.lines.now) = omega (arith, c.loop-n-test.true, line-le-count c.args.lines.now c.args.to c.requires.to) in
    omega (arith, c.loop-n.invariant, ap length c.line.ensures.value, start-more (lines_of c.args.lines.now) c.loop-n.n inside)

pub overflow_sub-result : goal.overflow_sub-result
overflow_sub-result c =
    let at_end : c.loop-n.n ≡ c.args.to.line = omega (arith, c.loop-n-test.false, c.loop-n.auto.n-end, ordered_lines c.args.lines.now c.args.from c.args.to c.requires.from c.requires.to c.requires.ordered) in
    omega (arith, c.loop-n.invariant, ap (λ n. length (joined (take n (lines_of c.args.lines.now)))) at_end, c.requires.ordered)

pub returns : goal.returns
returns c =
    let at_end : c.loop-n.n ≡ c.args.to.line = omega (arith, c.loop-n-test.false, c.loop-n.auto.n-end, ordered_lines c.args.lines.now c.args.from c.args.to c.requires.from c.requires.to c.requires.ordered) in
    omega (arith, c.loop-n.invariant, ap (λ n. length (joined (take n (lines_of c.args.lines.now)))) at_end, c.requires.ordered)
