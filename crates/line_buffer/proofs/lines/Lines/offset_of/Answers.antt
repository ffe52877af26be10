use Rattle.std.proofs.Common.{◌<◌, ◌+◌, length, ap, arith}
use Rattle.text_model.specs.Texts.{lines_of}
use Rattle.text_model.proofs.PlaceLemmas.{start-more}
use Rattle.line_buffer.proofs.FlatLemmas.{line-le-count, start-small}
use Rattle.line_buffer.proofs.lines.Lines.offset_of.Goals as goal

pub loop-n-preserved : goal.loop-n-preserved
loop-n-preserved c =
    let inside : c.loop-n.n < length (lines_of c.args.self.now) = omega (arith, c.loop-n-test.true, line-le-count c.args.self.now c.args.at c.requires) in
    record {
      counted = omega (arith, c.loop-n.invariant.counted, ap length c.line.ensures.value, start-more (lines_of c.args.self.now) c.loop-n.n inside);
      small = omega (arith, c.loop-n.invariant.counted, ap length c.line.ensures.value, start-more (lines_of c.args.self.now) c.loop-n.n inside, start-small c.args.self.now (c.loop-n.n + 1) c.line.ensures.valid (omega arith));
    }
