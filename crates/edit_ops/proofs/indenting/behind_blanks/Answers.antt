use Rattle.std.proofs.Common.{◌<◌, length, ap, arith, inl}
use Rattle.compact_chars.specs.Rows.{chars_of}
use Rattle.text_model.specs.Texts.{nth_line}
use Rattle.edit_ops.proofs.BlankLemmas.{within-in_line}
use Rattle.edit_ops.proofs.indenting.behind_blanks.Goals as goal

pub overflow_cast-result : goal.overflow_cast-result
overflow_cast-result c =
    omega (arith, c.blanks_within-column.ensures, within-in_line c.args.tabstop.columns c.if-width-eq0.most 0 (chars_of c.line.result) c.line.ensures.line, c.line.ensures.small)

pub returns-clause-place : goal.returns-clause-place
returns-clause-place c =
    let in_line : c.blanks_within-column.result < length (nth_line c.args.lines.now c.args.n) =
    omega (arith, c.blanks_within-column.ensures, within-in_line c.args.tabstop.columns c.if-width-eq0.most 0 (chars_of c.line.result) c.line.ensures.line, ap length c.line.ensures.value) in
    inl (record { on_line = c.requires; in_line = in_line })
