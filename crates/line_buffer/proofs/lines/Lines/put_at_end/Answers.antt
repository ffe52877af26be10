use Rattle.std.proofs.Common.{◌≡◌, ◌++◌, List, ℕ, length, ap, ◌∙◌, arith}
use Rattle.line_buffer.proofs.BufferLemmas.{seen_lines, end_text, end_buffer}
use Rattle.line_buffer.proofs.RowLemmas.{put_last}
use Rattle.line_buffer.proofs.lines.Lines.put_at_end.Goals as goal

pub replace-requires-clause-inside : goal.replace-requires-clause-inside
replace-requires-clause-inside c =
    omega (arith, ap length (seen_lines c.args.self.now c.self.inside.lines c.self.inside.count c.self.invariant c.self.view_is), c.line_count-end.ensures.value)

pub invariant_of-self-2 : goal.invariant_of-self-2
invariant_of-self-2 c =
    let ls : List (List ℕ) = c.self.inside.lines in
    let all : c.line_count-end.result ≡ length ls = c.line_count-end.ensures.value ∙ ap length (seen_lines c.args.self.now c.self.inside.lines c.self.inside.count c.self.invariant c.self.view_is) in
    end_buffer c.args.self.now ls _ c.self.inside.count c.args.chars.now c.self.invariant c.self.view_is (c.in_ok-replace.ensures.ok ∙ put_last ls c.in_ok-fresh.fresh.items c.line_count-end.result all ∙ ap (λ t. ls ++ t) c.in_ok-fresh.ensures) c.requires.lines c.requires.room

pub returns-clause-ok : goal.returns-clause-ok
returns-clause-ok c =
    let ls : List (List ℕ) = c.self.inside.lines in
    let all : c.line_count-end.result ≡ length ls = c.line_count-end.ensures.value ∙ ap length (seen_lines c.args.self.now c.self.inside.lines c.self.inside.count c.self.invariant c.self.view_is) in
    end_text c.args.self.now ls _ c.args.chars.now c.self.view_is (c.in_ok-replace.ensures.ok ∙ put_last ls c.in_ok-fresh.fresh.items c.line_count-end.result all ∙ ap (λ t. ls ++ t) c.in_ok-fresh.ensures)
