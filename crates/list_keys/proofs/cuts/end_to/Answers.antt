use Rattle.std.proofs.Common.{◌+◌, ◌<◌, length, sym, ap, ◌∙◌, arith}
use Rattle.list_keys.proofs.LineLemmas.{line_size}
use Rattle.list_keys.proofs.CutLemmas.{end-here, end-before, end-none}
use Rattle.list_keys.proofs.cuts.end_to.Goals as goal

pub returns-then-upto-size-clause-gives : goal.returns-then-upto-size-clause-gives
returns-then-upto-size-clause-gives c =
    (c.requires, end-here c.args.lines.now c.args.upto c.line.ensures.valid.is_text c.requires (c.if-upto-size.true ∙ c.len-size.ensures ∙ ap length c.line.ensures.value))

pub returns-then-upto-gt0-clause-gives : goal.returns-then-upto-gt0-clause-gives
returns-then-upto-gt0-clause-gives c =
    let inner : c.args.upto.column + 1 < line_size c.args.lines.now c.args.upto.line = omega (arith, c.if-upto-size.false, c.len-size.ensures, ap length c.line.ensures.value, c.requires.in_line) in (
      c.line_end.ensures.place,
      end-before c.args.lines.now c.args.upto c.line_end.result c.line.ensures.valid.is_text c.requires inner (omega (arith, c.line_end.ensures.line, c.if-upto-gt0.true))
          (c.line_end.ensures.last ∙ ap (line_size c.args.lines.now) (sym c.line_end.ensures.line)),
    )

pub returns-clause-gives : goal.returns-clause-gives
returns-clause-gives c =
    let inner : c.args.upto.column + 1 < line_size c.args.lines.now c.args.upto.line = omega (arith, c.if-upto-size.false, c.len-size.ensures, ap length c.line.ensures.value, c.requires.in_line) in
    end-none c.args.lines.now c.args.upto c.line.ensures.valid.is_text c.requires inner (omega (arith, c.if-upto-gt0.false))
