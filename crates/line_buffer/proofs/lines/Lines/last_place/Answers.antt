use Rattle.std.proofs.Common.{◌≡◌, ◌+◌, length, get_or, [], sym, ap, ◌∙◌, arith}
use Rattle.text_model.specs.Texts.{lines_of}
use Rattle.line_buffer.proofs.StepLemmas.{offset-last}
use Rattle.line_buffer.proofs.lines.Lines.last_place.Goals as goal

pub returns-clause-last : goal.returns-clause-last
returns-clause-last c =
    let at : c.line_end.result.line + 1 ≡ length (lines_of c.args.self.now) = omega (arith, c.line_end.ensures.line, c.line_count-line.ensures.value, c.line_count-line.ensures.some) in
    let last : c.line_end.result.column + 1 ≡ length (get_or (lines_of c.args.self.now) c.line_end.result.line []) = c.line_end.ensures.last ∙ ap (λ n. length (get_or (lines_of c.args.self.now) n [])) (sym c.line_end.ensures.line) in
    omega (arith, offset-last c.args.self.now c.line_end.result.line c.line_end.result.column c.line_end.ensures.place.on_line last at)
