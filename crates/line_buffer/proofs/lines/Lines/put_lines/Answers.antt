use Rattle.std.proofs.Common.{◌≡◌, ◌<◌, ◌++◌, List, ℕ, [], length, take, drop, get_or, ap, arith}
use Rattle.text_model.specs.Texts.{IsText, lines_of}
use Rattle.text_model.proofs.LineLemmas.{joined-lines_of}
use Rattle.text_model.proofs.PlaceLemmas.{All-lines_of, some_lines}
use Rattle.line_buffer.proofs.BufferLemmas.{buffer_lines, seen_lines, put_text, put_buffer, longer_text}
use Rattle.line_buffer.proofs.lines.Lines.put_lines.Goals as goal

pub split-requires-clause-inside : goal.split-requires-clause-inside
split-requires-clause-inside c =
    omega (arith, ap length (seen_lines c.args.self.now c.self.inside.lines c.self.inside.count c.self.invariant c.self.view_is), c.requires.place.on_line)

pub split-requires-clause-column : goal.split-requires-clause-column
split-requires-clause-column c =
    omega (arith, ap (λ l. length (get_or l c.args.at.line [])) (seen_lines c.args.self.now c.self.inside.lines c.self.inside.count c.self.invariant c.self.view_is), c.requires.place.in_line)

pub invariant_of-self-2 : goal.invariant_of-self-2
invariant_of-self-2 c =
    let ls : List (List ℕ) = c.self.inside.lines in
    let same : lines_of c.args.self.now ≡ ls = seen_lines c.args.self.now ls c.self.inside.count c.self.invariant c.self.view_is in
    let inside : c.args.at.line < length ls = omega (arith, ap length same, c.requires.place.on_line) in
    let short : c.args.at.column < length (get_or ls c.args.at.line []) = omega (arith, ap (λ l. length (get_or l c.args.at.line [])) same, c.requires.place.in_line) in
    let new : List ℕ = take c.args.at.column (get_or ls c.args.at.line []) ++ (c.args.chars.now ++ drop c.args.at.column (get_or ls c.args.at.line [])) in
    let text : IsText new = longer_text (get_or ls c.args.at.line []) c.args.at.column c.args.chars.now (buffer_lines ls c.self.inside.count c.self.invariant c.args.at.line [] inside) short in
    put_buffer c.args.self.now ls (lines_of new) _ c.self.inside.count c.args.at c.args.chars.now c.self.invariant c.self.view_is c.requires.place (joined-lines_of new) c.in_ok-split.ensures.ok (All-lines_of new text) (some_lines new text) c.requires.room

pub returns-clause-ok : goal.returns-clause-ok
returns-clause-ok c =
    let ls : List (List ℕ) = c.self.inside.lines in
    let new : List ℕ = take c.args.at.column (get_or ls c.args.at.line []) ++ (c.args.chars.now ++ drop c.args.at.column (get_or ls c.args.at.line [])) in
    put_text c.args.self.now ls (lines_of new) _ c.self.inside.count c.args.at c.args.chars.now c.self.invariant c.self.view_is c.requires.place (joined-lines_of new) c.in_ok-split.ensures.ok
