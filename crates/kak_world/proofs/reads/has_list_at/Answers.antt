use Rattle.std.proofs.Common.{◌∙◌}
use Rattle.kak_world.proofs.KeptLemmas.{past-listed, none-listed, some-listed}
use Rattle.kak_world.proofs.reads.has_list_at.Goals as goal

pub returns-then-n-buffers : goal.returns-then-n-buffers
returns-then-n-buffers c = past-listed c.args.holder c.args.buffers.now c.args.n c.if-n-buffers.true

pub returns-in-None : goal.returns-in-None
returns-in-None c = none-listed c.args.holder c.args.buffers.now c.args.n _ c.if-n-buffers.false c.index-buffers-n.is c.in-None.is

pub returns-in-Some : goal.returns-in-Some
returns-in-Some c = c.has_list.ensures ∙ some-listed c.args.holder c.args.buffers.now c.args.n _ _ c.if-n-buffers.false c.index-buffers-n.is c.in-Some.is
