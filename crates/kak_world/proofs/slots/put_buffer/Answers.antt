use Rattle.std.proofs.Common.{arith, sym, subst, ◌∙◌, Some}
use Rattle.kak_world.specs.Seen.{all_seen, AllKeepUp, AllLeave}
use Rattle.kak_world.proofs.GapLemmas.{placed-set, placed-end}
use Rattle.kak_world.proofs.KeptLemmas.{seen-length, seen-set, seen-added, seen-all, placed-keeps, added-keeps}
use Rattle.kak_world.proofs.StoredLemmas.{placed-leaves, pushed-leaves}
use Rattle.kak_world.proofs.slots.put_buffer.Goals as goal

pub returns-then-at-len-clause-ok : goal.returns-then-at-len-clause-ok
returns-then-at-len-clause-ok c =
    seen-set _ _ _
    ∙ placed-set c.args.buffer.seen (all_seen c.args.buffers.now.items) c.args.at c.requires.gap (omega (arith, c.if-at-len.true, c.len.ensures, c.args.buffers.now.ok.0, seen-length c.args.buffers.now.items))

pub returns-then-at-len-clause-up : goal.returns-then-at-len-clause-up
returns-then-at-len-clause-up c = placed-keeps c.args.at c.args.buffer c.args.buffers.now.items c.requires.bare

pub returns-clause-ok : goal.returns-clause-ok
returns-clause-ok c =
    seen-all _ _ c.in_ok-push.ensures.items
    ∙ seen-added c.args.buffers.now.items (Some c.args.buffer)
    ∙ placed-end c.args.buffer.seen (all_seen c.args.buffers.now.items) c.args.at c.requires.gap (omega (arith, c.if-at-len.false, c.len.ensures, c.args.buffers.now.ok.0, seen-length c.args.buffers.now.items))

pub returns-clause-up : goal.returns-clause-up
returns-clause-up c = subst (AllKeepUp c.args.buffers.now.items) (sym c.in_ok-push.ensures.items) (added-keeps c.args.buffer c.args.buffers.now.items c.requires.bare)

pub returns-then-at-len-clause-leaves : goal.returns-then-at-len-clause-leaves
returns-then-at-len-clause-leaves c = λ other. placed-leaves other c.args.at c.args.buffer c.args.buffers.now.items c.requires.fresh

pub returns-clause-leaves : goal.returns-clause-leaves
returns-clause-leaves c = λ other. subst (AllLeave other c.args.buffers.now.items) (sym c.in_ok-push.ensures.items) (pushed-leaves other c.args.buffer c.args.buffers.now.items c.requires.fresh)
