use Rattle.std.proofs.Common.{◌+◌, arith}
use Rattle.compact_chars.specs.Rows.{chars_of}
use Rattle.window_view.proofs.HoldingLemmas.{next_column, holds, none_behind}
use Rattle.window_view.proofs.holding.offset_at.Goals as goal

pub returns-then-cell-end-clause-holds : goal.returns-then-cell-end-clause-holds
returns-then-cell-end-clause-holds c =
    holds (chars_of c.args.line) c.loop-i.i c.args.tabstop.columns c.loop-i.at (c.loop-i.at + c.cells.result) c.args.cell (omega (arith, c.loop-i-test.true, c.len-i-end.ensures)) c.loop-i.invariant.column_is
    (next_column (chars_of c.args.line) c.loop-i.i c.args.tabstop.columns c.loop-i.at c.at.result c.cells.result (omega (arith, c.loop-i-test.true, c.len-i-end.ensures)) c.at.ensures c.loop-i.invariant.column_is c.cells.ensures.value)
    c.loop-i.invariant.before c.if-cell-end.true

pub loop-i-preserved : goal.loop-i-preserved
loop-i-preserved c = record {
  column_is = next_column (chars_of c.args.line) c.loop-i.i c.args.tabstop.columns c.loop-i.at c.at.result c.cells.result (omega (arith, c.loop-i-test.true, c.len-i-end.ensures)) c.at.ensures c.loop-i.invariant.column_is c.cells.ensures.value;
  small = omega arith;
  before = c.if-cell-end.false;
}

pub returns-clause-none : goal.returns-clause-none
returns-clause-none c = λ _ n. none_behind (chars_of c.args.line) c.args.tabstop.columns c.args.cell c.loop-i.at c.loop-i.i c.loop-i.invariant.column_is c.loop-i.invariant.before (omega (arith, c.loop-i-test.false, c.len-i-end.ensures)) n
