use Rattle.std.proofs.Common.{◌++◌, List, ℕ, [], length, take, drop, get_or, ap, refl, arith}
use Rattle.text_model.proofs.PlaceLemmas.{offset-below}
use Rattle.line_buffer.proofs.BufferLemmas.{seen_lines}
use Rattle.line_buffer.proofs.EraseLemmas.{joined_text, joined_buffer}
use Rattle.line_buffer.proofs.lines.Lines.join_lines.Goals as goal

pub join-requires-clause-inside : goal.join-requires-clause-inside
join-requires-clause-inside c =
    omega (arith, ap length (seen_lines c.args.self.now c.self.inside.lines c.self.inside.count c.self.invariant c.self.view_is), c.requires.to.on_line)

pub join-requires-clause-column : goal.join-requires-clause-column
join-requires-clause-column c =
    omega (arith, ap (λ l. length (get_or l c.args.from.line [])) (seen_lines c.args.self.now c.self.inside.lines c.self.inside.count c.self.invariant c.self.view_is), c.requires.from.in_line)

pub join-requires-clause-from : goal.join-requires-clause-from
join-requires-clause-from c =
    omega (arith, ap (λ l. length (get_or l c.args.to.line [])) (seen_lines c.args.self.now c.self.inside.lines c.self.inside.count c.self.invariant c.self.view_is), c.requires.to.in_line)

pub overflow_sub-self : goal.overflow_sub-self
overflow_sub-self c = omega (arith, c.requires.gone, offset-below c.args.self.now c.args.to c.requires.to, c.self.invariant.counted, ap length c.self.view_is)

pub invariant_of-self-2 : goal.invariant_of-self-2
invariant_of-self-2 c =
    let ls : List (List ℕ) = c.self.inside.lines in
    let new : List ℕ = take c.args.from.column (get_or ls c.args.from.line []) ++ drop c.args.to.column (get_or ls c.args.to.line []) in
    joined_buffer c.args.self.now ls _ c.self.inside.count c.args.gone c.args.from c.args.to new c.self.invariant c.self.view_is c.requires.from c.requires.to refl c.in_ok-join.ensures.ok c.requires.gone

pub returns-clause-ok : goal.returns-clause-ok
returns-clause-ok c =
    let ls : List (List ℕ) = c.self.inside.lines in
    let new : List ℕ = take c.args.from.column (get_or ls c.args.from.line []) ++ drop c.args.to.column (get_or ls c.args.to.line []) in
    joined_text c.args.self.now ls _ c.self.inside.count c.args.from c.args.to new c.self.invariant c.self.view_is c.requires.from c.requires.to refl c.in_ok-join.ensures.ok
