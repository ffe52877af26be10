use Rattle.std.proofs.Common.{sym, arith}
use Rattle.kak_text.proofs.CellLemmas.{printable-width}
use Rattle.kak_text.proofs.widths.width.Goals as goal

pub returns-then-matches-clause-value : goal.returns-then-matches-clause-value
returns-then-matches-clause-value c = sym (printable-width c.args.c (omega arith) (omega arith))
