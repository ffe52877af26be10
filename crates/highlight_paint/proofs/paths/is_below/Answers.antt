use Rattle.std.proofs.Common.{sym, ◌∙◌, arith}
use Rattle.highlight_paint.proofs.PathLemmas.{below-short}
use Rattle.highlight_paint.proofs.paths.is_below.Goals as goal

pub returns-then-i-path : goal.returns-then-i-path
returns-then-i-path c =
    sym (below-short c.args.above.now c.args.path.now c.loop-i.i (omega (arith, c.loop-i-test.true)) (omega (arith, c.if-i-path.true))) ∙ c.loop-i.invariant
