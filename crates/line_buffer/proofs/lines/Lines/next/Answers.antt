use Rattle.std.proofs.Common.{◌≡◌, ◌+◌, length, get_or, [], ap, arith, refl}
use Rattle.text_model.specs.declared.coords.Coord.{Coord}
use Rattle.text_model.specs.Texts.{IsPlace, lines_of}
use Rattle.text_model.proofs.PlaceLemmas.{offset-below, offset-next_line}
use Rattle.line_buffer.proofs.StepLemmas.{next_line_place, offset-last}
use Rattle.line_buffer.proofs.lines.Lines.next.Goals as goal

pub returns-then-at-len-clause-none : goal.returns-then-at-len-clause-none
returns-then-at-len-clause-none c =
    let after : Coord = record { line = c.args.at.line; column = c.args.at.column + 1 } in
    let there : IsPlace c.args.self.now after = record { on_line = c.requires.on_line; in_line = omega (arith, ap length c.line-line.ensures.value) } in
    (λ e. cc, λ e. absurd (omega (arith, offset-below c.args.self.now after there)))

pub returns-then-at-line_count-clause-none : goal.returns-then-at-line_count-clause-none
returns-then-at-line_count-clause-none c =
    let last : c.args.at.column + 1 ≡ length (get_or (lines_of c.args.self.now) c.args.at.line []) = omega (arith, ap length c.line-line.ensures.value, c.requires.in_line) in
    let below : Coord = record { line = c.args.at.line + 1; column = 0 } in
    let there : IsPlace c.args.self.now below = next_line_place c.args.self.now (c.args.at.line + 1) c.line_count.ensures.valid (omega (arith, c.line_count.ensures.value)) in
    (λ e. cc, λ e. absurd (omega (arith, offset-below c.args.self.now below there, offset-next_line c.args.self.now c.args.at.line c.args.at.column c.requires.on_line last)))

pub returns-then-at-line_count-clause-next : goal.returns-then-at-line_count-clause-next
returns-then-at-line_count-clause-next c =
    let last : c.args.at.column + 1 ≡ length (get_or (lines_of c.args.self.now) c.args.at.line []) = omega (arith, ap length c.line-line.ensures.value, c.requires.in_line) in
    (next_line_place c.args.self.now (c.args.at.line + 1) c.line_count.ensures.valid (omega (arith, c.line_count.ensures.value)), offset-next_line c.args.self.now c.args.at.line c.args.at.column c.requires.on_line last)

pub returns-clause-none : goal.returns-clause-none
returns-clause-none c =
    let last : c.args.at.column + 1 ≡ length (get_or (lines_of c.args.self.now) c.args.at.line []) = omega (arith, ap length c.line-line.ensures.value, c.requires.in_line) in
    let bottom : c.args.at.line + 1 ≡ length (lines_of c.args.self.now) = omega (arith, c.line_count.ensures.value, c.requires.on_line) in
    (λ e. omega (arith, offset-last c.args.self.now c.args.at.line c.args.at.column c.requires.on_line last bottom), λ e. refl)
