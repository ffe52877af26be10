use Rattle.std.proofs.Common.{arith}
use Rattle.line_buffer.proofs.BufferLemmas.{few_buffer_lines}
use Rattle.line_buffer.proofs.lines.Lines.line_count.Goals as goal

pub len-requires : goal.len-requires
len-requires c = omega (arith, few_buffer_lines c.self.inside.lines c.self.inside.count c.self.invariant)

pub returns-clause-small : goal.returns-clause-small
returns-clause-small c = grind (arith, few_buffer_lines c.self.inside.lines c.self.inside.count c.self.invariant)
