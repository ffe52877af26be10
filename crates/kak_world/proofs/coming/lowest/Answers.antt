use Rattle.std.proofs.Common.{ap, sym, ◌∙◌, arith}
use Rattle.std.specs.Prelude.{is_some}
use Rattle.kak_world.specs.Seen.{slot_seen, all_seen}
use Rattle.kak_world.proofs.SlotLemmas.{lowest-here, lowest-on, lowest-past}
use Rattle.kak_world.proofs.KeptLemmas.{seen-length, seen-at, seen-there}
use Rattle.kak_world.proofs.coming.lowest.Goals as goal

pub returns-then-is_some : goal.returns-then-is_some
returns-then-is_some c =
    sym (lowest-here (all_seen c.args.buffers.now) c.loop-i.i (slot_seen c.index-buffers-i.result) (omega (arith, c.loop-i-test.true, seen-length c.args.buffers.now))
    (ap is_some (sym (seen-at c.args.buffers.now c.loop-i.i c.index-buffers-i.result c.index-buffers-i.is)) ∙ seen-there c.index-buffers-i.result ∙ sym c.is_some.ensures ∙ c.if-is_some.true))
    ∙ c.loop-i.invariant

pub loop-i-preserved : goal.loop-i-preserved
loop-i-preserved c =
    sym (lowest-on (all_seen c.args.buffers.now) c.loop-i.i (slot_seen c.index-buffers-i.result) (omega (arith, c.loop-i-test.true, seen-length c.args.buffers.now))
    (ap is_some (sym (seen-at c.args.buffers.now c.loop-i.i c.index-buffers-i.result c.index-buffers-i.is)) ∙ seen-there c.index-buffers-i.result ∙ sym c.is_some.ensures ∙ c.if-is_some.false))
    ∙ c.loop-i.invariant

pub returns : goal.returns
returns c = omega (arith, lowest-past (all_seen c.args.buffers.now) c.loop-i.i (omega (arith, c.loop-i-test.false, seen-length c.args.buffers.now)), c.loop-i.invariant)
