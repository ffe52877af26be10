use Rattle.std.proofs.Common.{◌+◌, length, refl, ap, arith}
use Rattle.text_model.specs.Texts.{lines_of}
use Rattle.text_model.proofs.PlaceLemmas.{start-more}
use Rattle.regex_select.proofs.WalkLemmas.{next-begin}
use Rattle.regex_select.proofs.walking.further.Goals as goal

pub returns-clause-place : goal.returns-clause-place
returns-clause-place c = next-begin c.args.lines.now c.args.at.line (c.args.at.line + 1) c.line-line.ensures.valid c.requires.place.on_line refl

pub returns-clause-offset : goal.returns-clause-offset
returns-clause-offset c = omega (arith, start-more (lines_of c.args.lines.now) c.args.at.line c.requires.place.on_line, c.requires.there, c.if-column-len.false, c.len.ensures, ap length c.line-line.ensures.value)
