use Rattle.std.proofs.Common.{◌≡◌, length, ap, sym, ◌∙◌, arith}
use Rattle.std.specs.Prelude.{is_some}
use Rattle.kak_world.specs.Seen.{slot_seen, all_seen}
use Rattle.kak_world.specs.Dropping.{emptied}
use Rattle.kak_world.proofs.SlotLemmas.{lowest-past}
use Rattle.kak_world.proofs.DroppingLemmas.{length-emptied, other-here, other-on, other-self}
use Rattle.kak_world.proofs.KeptLemmas.{seen-length, seen-at, seen-there}
use Rattle.kak_world.proofs.dropping.lowest_other.Goals as goal

pub loop-i-preserved-then-i-n : goal.loop-i-preserved-then-i-n
loop-i-preserved-then-i-n c = sym (other-self (all_seen c.args.buffers.now) c.args.n c.loop-i.i (omega (arith, c.loop-i-test.true, seen-length c.args.buffers.now)) c.if-i-n.true) ∙ c.loop-i.invariant

pub returns-then-is_some : goal.returns-then-is_some
returns-then-is_some c =
    sym (other-here (all_seen c.args.buffers.now) c.args.n c.loop-i.i (slot_seen c.index-buffers-i.result) (omega (arith, c.loop-i-test.true, seen-length c.args.buffers.now)) c.if-i-n.false (ap is_some (sym (seen-at c.args.buffers.now c.loop-i.i c.index-buffers-i.result c.index-buffers-i.is)) ∙ seen-there c.index-buffers-i.result ∙ sym c.is_some.ensures ∙ c.if-is_some.true))
    ∙ c.loop-i.invariant

pub loop-i-preserved : goal.loop-i-preserved
loop-i-preserved c =
    sym (other-on (all_seen c.args.buffers.now) c.args.n c.loop-i.i (slot_seen c.index-buffers-i.result) (omega (arith, c.loop-i-test.true, seen-length c.args.buffers.now)) c.if-i-n.false (ap is_some (sym (seen-at c.args.buffers.now c.loop-i.i c.index-buffers-i.result c.index-buffers-i.is)) ∙ seen-there c.index-buffers-i.result ∙ sym c.is_some.ensures ∙ c.if-is_some.false))
    ∙ c.loop-i.invariant

pub returns : goal.returns
returns c =
    let same : length c.args.buffers.now ≡ c.loop-i.i = omega arith in
    same
    ∙ sym (lowest-past (emptied c.args.n (all_seen c.args.buffers.now)) c.loop-i.i (omega (arith, same, length-emptied c.args.n (all_seen c.args.buffers.now), seen-length c.args.buffers.now)))
    ∙ c.loop-i.invariant
