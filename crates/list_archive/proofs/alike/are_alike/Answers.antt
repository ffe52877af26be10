use Rattle.std.proofs.Common.{sym}
use Rattle.list_archive.proofs.AlikeLemmas.{alike-apart}
use Rattle.list_archive.proofs.alike.are_alike.Goals as goal

pub returns-then-a-b : goal.returns-then-a-b
returns-then-a-b c = sym (alike-apart c.args.a.now c.args.b.now c.if-a-b.true)
