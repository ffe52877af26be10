use Rattle.std.proofs.Common.{ap, sym, ◌∙◌, arith}
use Rattle.std.specs.Prelude.{is_none}
use Rattle.kak_world.specs.Seen.{slot_seen, all_seen}
use Rattle.kak_world.proofs.GapLemmas.{gap-here, gap-on, gap-past}
use Rattle.kak_world.proofs.KeptLemmas.{seen-length, seen-at, seen-gone, none-told}
use Rattle.kak_world.proofs.slots.first_gap.Goals as goal

pub returns-then-is_none : goal.returns-then-is_none
returns-then-is_none c =
    sym (gap-here (all_seen c.args.buffers.now) c.loop-i.i (slot_seen c.index-buffers-i.result) (omega (arith, c.loop-i-test.true, seen-length c.args.buffers.now))
    (ap is_none (sym (seen-at c.args.buffers.now c.loop-i.i c.index-buffers-i.result c.index-buffers-i.is)) ∙ seen-gone c.index-buffers-i.result ∙ none-told c.index-buffers-i.result c.is_none.result c.is_none.ensures ∙ c.if-is_none.true))
    ∙ c.loop-i.invariant

pub loop-i-preserved : goal.loop-i-preserved
loop-i-preserved c =
    sym (gap-on (all_seen c.args.buffers.now) c.loop-i.i (slot_seen c.index-buffers-i.result) (omega (arith, c.loop-i-test.true, seen-length c.args.buffers.now))
    (ap is_none (sym (seen-at c.args.buffers.now c.loop-i.i c.index-buffers-i.result c.index-buffers-i.is)) ∙ seen-gone c.index-buffers-i.result ∙ none-told c.index-buffers-i.result c.is_none.result c.is_none.ensures ∙ c.if-is_none.false))
    ∙ c.loop-i.invariant

pub returns : goal.returns
returns c = omega (arith, gap-past (all_seen c.args.buffers.now) c.loop-i.i (omega (arith, c.loop-i-test.false, seen-length c.args.buffers.now)), c.loop-i.invariant)
