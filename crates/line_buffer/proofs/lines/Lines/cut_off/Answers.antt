use Rattle.std.proofs.Common.{◌≡◌, List, ℕ, length, ap, ◌∙◌}
use Rattle.line_buffer.proofs.BufferLemmas.{seen_lines}
use Rattle.line_buffer.proofs.EraseLemmas.{cut_off_text, cut_off_buffer}
use Rattle.line_buffer.proofs.RowLemmas.{cut_last}
use Rattle.line_buffer.proofs.lines.Lines.cut_off.Goals as goal

pub invariant_of-self-2 : goal.invariant_of-self-2
invariant_of-self-2 c =
    let ls : List (List ℕ) = c.self.inside.lines in
    let all : c.line_count-end.result ≡ length ls = c.line_count-end.ensures.value ∙ ap length (seen_lines c.args.self.now c.self.inside.lines c.self.inside.count c.self.invariant c.self.view_is) in
    cut_off_buffer c.args.self.now ls _ c.self.inside.count c.args.gone c.args.from c.self.invariant c.self.view_is c.requires.begin c.requires.some c.requires.inside (c.in_ok-replace.ensures.ok ∙ cut_last ls c.new.result.items c.args.from.line c.line_count-end.result c.new.ensures.items all) c.requires.gone

pub returns-clause-ok : goal.returns-clause-ok
returns-clause-ok c =
    let ls : List (List ℕ) = c.self.inside.lines in
    let all : c.line_count-end.result ≡ length ls = c.line_count-end.ensures.value ∙ ap length (seen_lines c.args.self.now c.self.inside.lines c.self.inside.count c.self.invariant c.self.view_is) in
    cut_off_text c.args.self.now ls _ c.self.inside.count c.args.from c.self.invariant c.self.view_is c.requires.begin (c.in_ok-replace.ensures.ok ∙ cut_last ls c.new.result.items c.args.from.line c.line_count-end.result c.new.ensures.items all)
