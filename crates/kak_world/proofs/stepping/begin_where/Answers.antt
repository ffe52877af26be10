use Rattle.kak_world.proofs.CalmLemmas.{calm-begun}
use Rattle.kak_world.proofs.stepping.begin_where.Goals as goal

pub returns-then-not-may_differ : goal.returns-then-not-may_differ
returns-then-not-may_differ c = calm-begun c.args.buffers.now.items (c.requires c.if-not-may_differ.true)
