use Rattle.std.proofs.Common.{arith}
use Rattle.regex_select.proofs.MatchedLemmas.{first-line}
use Rattle.regex_select.proofs.taking.before.Goals as goal

pub returns-clause-offset : goal.returns-clause-offset
returns-clause-offset c = first-line c.args.lines.now c.args.at c.line_end.result c.requires.later c.requires.place (omega arith) c.line_end.ensures.line c.line_end.ensures.last
