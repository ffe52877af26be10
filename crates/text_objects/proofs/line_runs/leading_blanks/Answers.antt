use Rattle.std.proofs.Common.{◌≡◌, false, true, length, slice_index, sym, ap, ◌∙◌, arith}
use Rattle.compact_chars.specs.Rows.{chars_of}
use Rattle.text_objects.specs.RunObjects.{is_blank}
use Rattle.text_objects.proofs.RunLemmas.{end-here, end-on}
use Rattle.text_objects.proofs.line_runs.leading_blanks.Goals as goal

pub returns-then-not-is_char_of-clause-value : goal.returns-then-not-is_char_of-clause-value
returns-then-not-is_char_of-clause-value c =
    let fails : is_blank (slice_index (chars_of c.args.line) c.loop-column.column) ≡ false = ap is_blank (sym c.at.ensures) ∙ sym c.is_char_of.ensures ∙ c.if-not-is_char_of.true in
    sym (c.loop-column.invariant ∙ end-here (λ k. is_blank (slice_index (chars_of c.args.line) k)) c.loop-column.column (length (chars_of c.args.line)) (omega (arith, c.loop-column-test.true, c.len-column-end.ensures)) fails)

pub loop-column-preserved : goal.loop-column-preserved
loop-column-preserved c =
    let met : is_blank (slice_index (chars_of c.args.line) c.loop-column.column) ≡ true = ap is_blank (sym c.at.ensures) ∙ sym c.is_char_of.ensures ∙ c.if-not-is_char_of.false in
    c.loop-column.invariant ∙ sym (end-on (λ k. is_blank (slice_index (chars_of c.args.line) k)) c.loop-column.column (length (chars_of c.args.line)) (omega (arith, c.loop-column-test.true, c.len-column-end.ensures)) met)
