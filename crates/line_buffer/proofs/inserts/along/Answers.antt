use Rattle.std.proofs.Common.{sym}
use Rattle.line_buffer.proofs.InsertLemmas.{reached-along}
use Rattle.line_buffer.proofs.inserts.along.Goals as goal

pub returns : goal.returns
returns c = sym (reached-along c.args.from c.args.chars.now c.requires.one_line)
