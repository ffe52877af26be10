use Rattle.std.proofs.Common.{◌∙◌}
use Rattle.text_coding.proofs.FormLemmas.{length-ended, length-unended}
use Rattle.text_coding.proofs.decoding.Survey.text_len.Goals as goal

pub returns-then-self-eq10 : goal.returns-then-self-eq10
returns-then-self-eq10 c = λ cs known small. c.count-count.ensures cs known ∙ length-ended c.args.self.now c.args.eol cs c.if-self-eq10.true known

pub returns : goal.returns
returns c = λ cs known small. c.saturating_add.ensures ∙ length-unended c.args.self.now c.args.eol cs c.count-count.result c.if-self-eq10.false known small (c.count-count.ensures cs known)
