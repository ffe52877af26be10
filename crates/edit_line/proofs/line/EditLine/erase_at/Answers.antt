use Rattle.std.proofs.Common.{ap, ◌∙◌}
use Rattle.edit_line.specs.Edits.{erased_at}
use Rattle.edit_line.proofs.HalfLemmas.{erased-there}
use Rattle.edit_line.proofs.line.EditLine.erase_at.Goals as goal

pub returns-then-self-len : goal.returns-then-self-len
returns-then-self-len c = erased-there c.self.inside.at c.self.inside.chars.items c.take_out.new.row.items c.self.invariant c.take_out.ensures ∙ ap erased_at c.self.view_is
