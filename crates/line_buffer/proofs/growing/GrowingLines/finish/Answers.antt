use Rattle.std.proofs.Common.{subst, sym, length, ◌<◌}
use Rattle.line_buffer.proofs.GrowingLemmas.{grown-buffer}
use Rattle.line_buffer.proofs.growing.GrowingLines.finish.Goals as goal

pub of_lines-requires : goal.of_lines-requires
of_lines-requires c = grown-buffer c.self.inside.lines.items c.self.inside.count c.self.invariant (subst (λ t. 0 < length t) (sym c.self.view_is) c.requires)
