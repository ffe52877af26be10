use Rattle.std.proofs.Common.{sym, ap, ◌∙◌}
use Rattle.compact_chars.specs.Rows.{chars_of}
use Rattle.selection_texts.specs.Meaning.{char_holding, column_meant}
use Rattle.selection_texts.proofs.ColumnLemmas.{holding-is}
use Rattle.selection_texts.proofs.columns.column_meant.Goals as goal

pub returns-in-Bytes-clause-value : goal.returns-in-Bytes-clause-value
returns-in-Bytes-clause-value c =
    holding-is (chars_of c.args.line) c.char_column.result c.from.result c.char_column.ensures.there c.char_column.ensures.begins c.char_column.ensures.ends
    ∙ ap (char_holding (chars_of c.args.line)) c.from.ensures ∙ ap (λ k. column_meant k (chars_of c.args.line) c.args.column) (sym c.in-Bytes.is)
