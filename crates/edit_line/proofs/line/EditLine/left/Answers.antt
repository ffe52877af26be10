use Rattle.std.proofs.Common.{ap, ◌∙◌}
use Rattle.edit_line.specs.Edits.{gone_left}
use Rattle.edit_line.proofs.HalfLemmas.{goes-left}
use Rattle.edit_line.proofs.line.EditLine.left.Goals as goal

pub returns : goal.returns
returns c = goes-left c.self.inside.at c.saturating_sub-self-inside.result c.self.inside.chars.items c.self.invariant c.saturating_sub-self-inside.ensures ∙ ap gone_left c.self.view_is
