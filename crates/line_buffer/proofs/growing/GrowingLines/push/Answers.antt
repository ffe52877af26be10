use Rattle.std.proofs.Common.{◌+◌, ap, [], ◌∷◌, ◌++◌, chars, length, ◌∙◌, arith}
use Rattle.line_buffer.proofs.GrowingLemmas.{grown-text, grown-lines}
use Rattle.line_buffer.proofs.growing.GrowingLines.push.Goals as goal

pub invariant_of-self-2 : goal.invariant_of-self-2
invariant_of-self-2 c = grown-lines c.self.inside.lines.items _ c.self.inside.count _ (chars c.args.line.now) c.self.invariant c.requires (c.in_ok-push_line.ensures.ok ∙ ap (λ l. c.self.inside.lines.items ++ l ∷ []) c.in_ok-made.ensures) (ap (λ n. c.self.inside.count + n) (c.len-more.ensures ∙ ap length (c.as_chars.ensures.value ∙ c.in_ok-made.ensures))) (c.has_at_most.ensures.0 c.if-not-has_at_most.false)

pub returns-clause-ok : goal.returns-clause-ok
returns-clause-ok c = grown-text c.self.inside.lines.items _ (chars c.args.line.now) (c.in_ok-push_line.ensures.ok ∙ ap (λ l. c.self.inside.lines.items ++ l ∷ []) c.in_ok-made.ensures) ∙ ap (λ t. t ++ (chars c.args.line.now)) c.self.view_is
