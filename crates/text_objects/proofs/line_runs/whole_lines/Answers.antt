use Rattle.std.proofs.Common.{◌≡◌, ◌+◌, length, sym, ap, ◌∙◌, arith}
use Rattle.text_model.specs.Texts.{nth_line}
use Rattle.text_objects.proofs.LineRunLemmas.{whole-is}
use Rattle.text_objects.proofs.line_runs.whole_lines.Goals as goal

pub returns : goal.returns
returns c =
    let last : c.line_end-cursor.result.line + 1 ≡ c.args.to = omega (arith, c.line_end-cursor.ensures.line, c.requires.ordered, c.requires.few) in
    whole-is c.args.lines.now c.args.from c.args.to c.line_end-cursor.result c.requires.stored c.requires.ordered c.requires.there last c.line_end-cursor.ensures.place (c.line_end-cursor.ensures.last ∙ ap (λ k. length (nth_line c.args.lines.now k)) (sym c.line_end-cursor.ensures.line))
