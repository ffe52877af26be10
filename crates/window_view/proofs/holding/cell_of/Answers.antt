use Rattle.std.proofs.Common.{arith}
use Rattle.compact_chars.specs.Rows.{chars_of}
use Rattle.window_view.proofs.HoldingLemmas.{next_column}
use Rattle.window_view.proofs.holding.cell_of.Goals as goal

pub loop-i-preserved : goal.loop-i-preserved
loop-i-preserved c = record {
  column_is = next_column (chars_of c.args.line) c.loop-i.i c.args.tabstop.columns c.loop-i.at c.at.result c.cells-at.result (omega (arith, c.loop-i-test.true, c.requires.inside)) c.at.ensures c.loop-i.invariant.column_is c.cells-at.ensures.value;
  small = omega arith;
}
