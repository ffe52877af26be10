use Rattle.std.proofs.Common.{◌≡◌, ◌<◌, ◌++◌, List, ℕ, [], length, take, drop, get_or, ap, sym, ◌∙◌, arith}
use Rattle.text_model.specs.Texts.{IsPlace, lines_of}
use Rattle.line_buffer.proofs.BufferLemmas.{length-line-le, seen_lines}
use Rattle.line_buffer.proofs.EraseLemmas.{earlier_on_line, offset-same_line, set_joined, joined_text, joined_buffer}
use Rattle.line_buffer.proofs.lines.Lines.cut_line.Goals as goal

pub cut_on-requires-clause-inside : goal.cut_on-requires-clause-inside
cut_on-requires-clause-inside c =
    omega (arith, ap length (seen_lines c.args.self.now c.self.inside.lines c.self.inside.count c.self.invariant c.self.view_is), c.requires.place.on_line)

pub cut_on-requires-clause-column : goal.cut_on-requires-clause-column
cut_on-requires-clause-column c =
    omega (arith, ap (λ l. length (get_or l c.args.to.line [])) (seen_lines c.args.self.now c.self.inside.lines c.self.inside.count c.self.invariant c.self.view_is), c.requires.place.in_line)

pub overflow_sub-self-2 : goal.overflow_sub-self-2
overflow_sub-self-2 c =
    let ls : List (List ℕ) = c.self.inside.lines in
    let same : lines_of c.args.self.now ≡ ls = seen_lines c.args.self.now c.self.inside.lines c.self.inside.count c.self.invariant c.self.view_is in
    omega (arith, ap (λ l. length (get_or l c.args.to.line [])) same, c.requires.place.in_line, length-line-le ls c.args.to.line, c.self.invariant.counted)

pub invariant_of-self : goal.invariant_of-self
invariant_of-self c =
    let ls : List (List ℕ) = c.self.inside.lines in
    let same : lines_of c.args.self.now ≡ ls = seen_lines c.args.self.now c.self.inside.lines c.self.inside.count c.self.invariant c.self.view_is in
    let inside : c.args.to.line < length ls = omega (arith, ap length same, c.requires.place.on_line) in
    let place : IsPlace c.args.self.now c.args.from = earlier_on_line c.args.self.now c.args.from c.args.to c.requires.place c.requires.one_line c.requires.ordered in
    let new : List ℕ = take c.args.from.column (get_or ls c.args.to.line []) ++ drop c.args.to.column (get_or ls c.args.to.line []) in
    joined_buffer c.args.self.now ls _ c.self.inside.count _ c.args.from c.args.to new c.self.invariant c.self.view_is place c.requires.place (ap (λ n. take c.args.from.column (get_or ls n []) ++ drop c.args.to.column (get_or ls c.args.to.line [])) (sym c.requires.one_line)) (c.cut_on.ensures ∙ set_joined ls c.args.from.line c.args.to.line new c.requires.one_line inside) (offset-same_line c.args.self.now c.args.from c.args.to c.requires.one_line c.requires.ordered)

pub returns : goal.returns
returns c =
    let ls : List (List ℕ) = c.self.inside.lines in
    let same : lines_of c.args.self.now ≡ ls = seen_lines c.args.self.now c.self.inside.lines c.self.inside.count c.self.invariant c.self.view_is in
    let inside : c.args.to.line < length ls = omega (arith, ap length same, c.requires.place.on_line) in
    let place : IsPlace c.args.self.now c.args.from = earlier_on_line c.args.self.now c.args.from c.args.to c.requires.place c.requires.one_line c.requires.ordered in
    let new : List ℕ = take c.args.from.column (get_or ls c.args.to.line []) ++ drop c.args.to.column (get_or ls c.args.to.line []) in
    joined_text c.args.self.now ls _ c.self.inside.count c.args.from c.args.to new c.self.invariant c.self.view_is place c.requires.place (ap (λ n. take c.args.from.column (get_or ls n []) ++ drop c.args.to.column (get_or ls c.args.to.line [])) (sym c.requires.one_line)) (c.cut_on.ensures ∙ set_joined ls c.args.from.line c.args.to.line new c.requires.one_line inside)
