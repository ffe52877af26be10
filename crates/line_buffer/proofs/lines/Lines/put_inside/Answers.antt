use Rattle.std.proofs.Common.{arith}
use Rattle.line_buffer.proofs.InsertLemmas.{place-line-le, place-column-le}
use Rattle.line_buffer.proofs.lines.Lines.put_inside.Goals as goal

pub walked-behind-requires-clause-line : goal.walked-behind-requires-clause-line
walked-behind-requires-clause-line c = omega (arith, place-line-le c.args.self.now c.args.at c.len.ensures.valid c.requires, c.len.ensures.value, c.len.ensures.valid.small)

pub walked-behind-requires-clause-column : goal.walked-behind-requires-clause-column
walked-behind-requires-clause-column c = omega (arith, place-column-le c.args.self.now c.args.at c.len.ensures.valid c.requires, c.len.ensures.value, c.len.ensures.valid.small)

pub along-behind-requires-clause-column : goal.along-behind-requires-clause-column
along-behind-requires-clause-column c = omega (arith, place-column-le c.args.self.now c.args.at c.len.ensures.valid c.requires, c.len.ensures.value, c.len.ensures.valid.small)
