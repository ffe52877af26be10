use Rattle.std.proofs.Common.{◌≡◌, ◌+◌, ◌-◌, length, ap, ◌∙◌, arith}
use Rattle.compact_chars.specs.Rows.{chars_of}
use Rattle.text_model.specs.declared.coords.Coord.{Coord}
use Rattle.edit_ops.specs.Blanks.{blanks}
use Rattle.edit_ops.proofs.BlankLemmas.{blanks-in_line}
use Rattle.edit_ops.proofs.LineEditLemmas.{join-flat, join-ends}
use Rattle.edit_ops.proofs.joining.join_at.Goals as goal

pub overflow_cast-result-2 : goal.overflow_cast-result-2
overflow_cast-result-2 c = omega (arith, c.blanks-behind.ensures, blanks-in_line (chars_of c.line-2.result) c.line-2.ensures.line, c.line-2.ensures.small)

pub returns-clause-joins : goal.returns-clause-joins
returns-clause-joins c =
    let next : c.next_line-next.result.line ≡ c.args.n + 1 = ap (λ (at : Coord). at.line) c.next_line-next.ensures.value in
    join-flat c.args.lines.now c.args.n c.next_line-next.result.line (c.len-newline.result - 1) c.blanks-behind.result c.in_ok-from_slice.field-0
    (omega (arith, c.requires)) next (omega (arith, ap length c.line.ensures.value, c.line.ensures.line.some, c.len-newline.ensures)) (c.blanks-behind.ensures ∙ ap blanks c.line-2.ensures.value) c.in_ok-from_slice.ensures.copies

pub returns-clause-ends : goal.returns-clause-ends
returns-clause-ends c =
    let next : c.next_line-next.result.line ≡ c.args.n + 1 = ap (λ (at : Coord). at.line) c.next_line-next.ensures.value in
    join-ends c.args.lines.now c.args.n c.next_line-next.result.line (c.len-newline.result - 1) c.blanks-behind.result c.in_ok-from_slice.field-0
    (omega (arith, c.requires)) (omega (arith, next, c.requires)) (omega (arith, ap length c.line.ensures.value, c.line.ensures.line.some, c.len-newline.ensures))
    (omega (arith, c.blanks-behind.ensures, blanks-in_line (chars_of c.line-2.result) c.line-2.ensures.line, ap length c.line-2.ensures.value))
