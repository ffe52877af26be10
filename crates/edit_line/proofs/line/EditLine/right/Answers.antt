use Rattle.std.proofs.Common.{ap, ◌∙◌}
use Rattle.edit_line.specs.Edits.{gone_right}
use Rattle.edit_line.proofs.HalfLemmas.{goes-right}
use Rattle.edit_line.proofs.line.EditLine.right.Goals as goal

pub returns-then-self-len : goal.returns-then-self-len
returns-then-self-len c = goes-right c.self.inside.at c.self.inside.chars.items ∙ ap gone_right c.self.view_is
