use Rattle.std.proofs.Common.{◌≡◌, ◌<◌, ◌++◌, List, ℕ, [], ◌∷◌, length, take, drop, get_or, ap, ◌∙◌, arith, append-nil}
use Rattle.text_model.specs.Texts.{IsLine, lines_of}
use Rattle.line_buffer.proofs.BufferLemmas.{buffer_lines, seen_lines, put_text, put_buffer, set_is_replaced, one_line, longer_line}
use Rattle.line_buffer.proofs.lines.Lines.put_on_line.Goals as goal

pub put_on-requires-clause-inside : goal.put_on-requires-clause-inside
put_on-requires-clause-inside c =
    omega (arith, ap length (seen_lines c.args.self.now c.self.inside.lines c.self.inside.count c.self.invariant c.self.view_is), c.requires.place.on_line)

pub put_on-requires-clause-column : goal.put_on-requires-clause-column
put_on-requires-clause-column c =
    omega (arith, ap (λ l. length (get_or l c.args.at.line [])) (seen_lines c.args.self.now c.self.inside.lines c.self.inside.count c.self.invariant c.self.view_is), c.requires.place.in_line)

pub invariant_of-self-2 : goal.invariant_of-self-2
invariant_of-self-2 c =
    let ls : List (List ℕ) = c.self.inside.lines in
    let same : lines_of c.args.self.now ≡ ls = seen_lines c.args.self.now ls c.self.inside.count c.self.invariant c.self.view_is in
    let inside : c.args.at.line < length ls = omega (arith, ap length same, c.requires.place.on_line) in
    let short : c.args.at.column < length (get_or ls c.args.at.line []) = omega (arith, ap (λ l. length (get_or l c.args.at.line [])) same, c.requires.place.in_line) in
    let new : List ℕ = take c.args.at.column (get_or ls c.args.at.line []) ++ (c.args.chars.now ++ drop c.args.at.column (get_or ls c.args.at.line [])) in
    let line : IsLine new = longer_line (get_or ls c.args.at.line []) c.args.at.column c.args.chars.now (buffer_lines ls c.self.inside.count c.self.invariant c.args.at.line [] inside) short c.requires.one_line in
    put_buffer c.args.self.now ls (new ∷ []) _ c.self.inside.count c.args.at c.args.chars.now c.self.invariant c.self.view_is c.requires.place (append-nil new) (c.in_ok-put_on.ensures.ok ∙ set_is_replaced ls c.args.at.line new inside) (one_line new line) (omega arith) c.requires.room

pub returns-clause-ok : goal.returns-clause-ok
returns-clause-ok c =
    let ls : List (List ℕ) = c.self.inside.lines in
    let same : lines_of c.args.self.now ≡ ls = seen_lines c.args.self.now ls c.self.inside.count c.self.invariant c.self.view_is in
    let inside : c.args.at.line < length ls = omega (arith, ap length same, c.requires.place.on_line) in
    let new : List ℕ = take c.args.at.column (get_or ls c.args.at.line []) ++ (c.args.chars.now ++ drop c.args.at.column (get_or ls c.args.at.line [])) in
    put_text c.args.self.now ls (new ∷ []) _ c.self.inside.count c.args.at c.args.chars.now c.self.invariant c.self.view_is c.requires.place (append-nil new) (c.in_ok-put_on.ensures.ok ∙ set_is_replaced ls c.args.at.line new inside)
