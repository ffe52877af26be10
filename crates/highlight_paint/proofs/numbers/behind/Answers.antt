use Rattle.std.proofs.Common.{sym, ◌∙◌, arith}
use Rattle.highlight_paint.proofs.NumberLemmas.{behind-last}
use Rattle.highlight_paint.proofs.numbers.behind.Goals as goal

pub returns-then-at-ge-LAST_COLUMN : goal.returns-then-at-ge-LAST_COLUMN
returns-then-at-ge-LAST_COLUMN c =
    sym (behind-last c.args.tabstop.columns c.loop-c.at c.loop-c.c-index c.args.chars.now (omega (arith, c.if-at-ge-LAST_COLUMN.true))) ∙ c.loop-c.invariant
