use Rattle.std.proofs.Common.{◌≡◌, [], length, get_or, ap, ◌∙◌, arith}
use Rattle.compact_chars.specs.Rows.{chars_of}
use Rattle.line_buffer.proofs.BufferLemmas.{seen_lines, short_buffer_line}
use Rattle.line_buffer.proofs.lines.Lines.line.Goals as goal

pub line-requires : goal.line-requires
line-requires c = omega (arith, ap length (seen_lines c.args.self.now c.self.inside.lines c.self.inside.count c.self.invariant c.self.view_is), c.requires)

pub returns-clause-small : goal.returns-clause-small
returns-clause-small c =
    let is : chars_of c.as_chars.result ≡ get_or c.self.inside.lines c.args.n [] = c.as_chars.ensures.value ∙ c.line.ensures in
    omega (arith, ap length is, short_buffer_line c.self.inside.lines c.self.inside.count c.args.n c.self.invariant)
