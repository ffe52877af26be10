use Rattle.std.proofs.Common.{◌≡◌, ◌+◌, length, get_or, [], sym, ap, ◌∙◌, arith}
use Rattle.text_model.specs.Texts.{lines_of}
use Rattle.line_buffer.proofs.StepLemmas.{offset-line_before}
use Rattle.line_buffer.proofs.lines.Lines.prev.Goals as goal

pub returns-then-at-gt0-2-clause-none : goal.returns-then-at-gt0-2-clause-none
returns-then-at-gt0-2-clause-none c =
    let up : c.line_end.result.line + 1 ≡ c.args.at.line = omega (arith, c.line_end.ensures.line) in
    let last : c.line_end.result.column + 1 ≡ length (get_or (lines_of c.args.self.now) c.line_end.result.line []) = c.line_end.ensures.last ∙ ap (λ n. length (get_or (lines_of c.args.self.now) n [])) (sym c.line_end.ensures.line) in
    (λ e. cc, λ e. absurd (omega (arith, offset-line_before c.args.self.now c.line_end.result.line c.args.at.line c.line_end.result.column up c.line_end.ensures.place.on_line last)))

pub returns-then-at-gt0-2-clause-prev : goal.returns-then-at-gt0-2-clause-prev
returns-then-at-gt0-2-clause-prev c =
    let up : c.line_end.result.line + 1 ≡ c.args.at.line = omega (arith, c.line_end.ensures.line) in
    let last : c.line_end.result.column + 1 ≡ length (get_or (lines_of c.args.self.now) c.line_end.result.line []) = c.line_end.ensures.last ∙ ap (λ n. length (get_or (lines_of c.args.self.now) n [])) (sym c.line_end.ensures.line) in
    (c.line_end.ensures.place, omega (arith, offset-line_before c.args.self.now c.line_end.result.line c.args.at.line c.line_end.result.column up c.line_end.ensures.place.on_line last))
