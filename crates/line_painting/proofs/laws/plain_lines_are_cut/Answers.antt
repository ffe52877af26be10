use Rattle.line_painting.proofs.PlainLemmas.{plain_lines, ascii}
use Rattle.line_painting.proofs.laws.plain_lines_are_cut.Goals as goal

pub returns : goal.returns
returns c = record { cut = plain_lines; ascii = ascii }
