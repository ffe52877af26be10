use Rattle.std.proofs.Common.{arith}
use Rattle.compact_chars.specs.Rows.{chars_of}
use Rattle.selection_texts.proofs.ColumnLemmas.{bytes-few}
use Rattle.selection_texts.proofs.columns.column_told.Goals as goal

pub overflow_cast-result : goal.overflow_cast-result
overflow_cast-result c = omega (arith, c.byte_column.ensures, bytes-few (chars_of c.args.line) c.args.column)

pub returns-in-Bytes-clause-small : goal.returns-in-Bytes-clause-small
returns-in-Bytes-clause-small c = omega (arith, c.byte_column.ensures, bytes-few (chars_of c.args.line) c.args.column)
