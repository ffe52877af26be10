use Rattle.std.proofs.Common.{◌≤◌, ap, sym, ◌∙◌, arith}
use Rattle.kak_world.specs.Seen.{Kept, KeptBuffer, all_seen}
use Rattle.kak_world.specs.Showing.{first_gap, buffer_count}
use Rattle.kak_world.proofs.GapLemmas.{gap-full, full-count, has-placed, now-opened, open-keeps}
use Rattle.kak_world.proofs.KeptLemmas.{turn-keeps}
use Rattle.kak_world.proofs.StandingLemmas.{stands-pending}
use Rattle.kak_world.proofs.StoredLemmas.{in-step, follows-all}
use Rattle.list_shelf.specs.declared.holder.Holder.TheVariants.{Of}
use Rattle.kak_world.proofs.world.World.open.Goals as goal

pub returns-then-n-ge-MAX_BUFFERS-clause-refused :
    goal.returns-then-n-ge-MAX_BUFFERS-clause-refused
returns-then-n-ge-MAX_BUFFERS-clause-refused g c = λ _.
    sym (ap (λ (k : Kept). buffer_count k.flat.buffers) c.self.view_is)
    ∙ full-count (all_seen c.self.inside.buffers.items) c.first_gap-n.result c.self.invariant.has.few (c.first_gap-n.ensures ∙ ap (λ bs. first_gap (all_seen bs)) c.as_slice.ensures.value) c.if-n-ge-MAX_BUFFERS.true

pub returns-in_err-buffer-clause-full : goal.returns-in_err-buffer-clause-full
returns-in_err-buffer-clause-full g c = λ full.
    let past : 1024 ≤ c.first_gap-n.result = gap-full (all_seen c.self.inside.buffers.items) c.first_gap-n.result c.self.invariant.has.few (c.first_gap-n.ensures ∙ ap (λ bs. first_gap (all_seen bs)) c.as_slice.ensures.value) (ap (λ (k : Kept). buffer_count k.flat.buffers) c.self.view_is ∙ full) in
    absurd (omega (arith, c.if-n-ge-MAX_BUFFERS.false))

pub returns-in_err-put_buffer-clause-full : goal.returns-in_err-put_buffer-clause-full
returns-in_err-put_buffer-clause-full g c = λ full.
    let past : 1024 ≤ c.first_gap-n.result = gap-full (all_seen c.self.inside.buffers.items) c.first_gap-n.result c.self.invariant.has.few (c.first_gap-n.ensures ∙ ap (λ bs. first_gap (all_seen bs)) c.as_slice.ensures.value) (ap (λ (k : Kept). buffer_count k.flat.buffers) c.self.view_is ∙ full) in
    absurd (omega (arith, c.if-n-ge-MAX_BUFFERS.false))

pub invariant_of-self-2 : goal.invariant_of-self-2
invariant_of-self-2 g c = stands-pending _ _ _
    (has-placed _ _ _ c.first_gap-n.result (c.first_gap-n.ensures ∙ ap (λ bs. first_gap (all_seen bs)) c.as_slice.ensures.value) (omega (arith, c.if-n-ge-MAX_BUFFERS.false)) c.in_ok-put_buffer.ensures.ok c.self.invariant.has)
    (turn-keeps _ _ _ _ c.in_ok-put_buffer.ensures.up c.self.invariant.up)
    (in-step _ _ _ _ _ (follows-all _ _ _ _ (λ k. c.in_ok-put_buffer.ensures.leaves (Of k))) c.self.invariant.step)

pub put_buffer-requires-clause-gap : goal.put_buffer-requires-clause-gap
put_buffer-requires-clause-gap g c = c.first_gap-n.ensures ∙ ap (λ bs. first_gap (all_seen bs)) c.as_slice.ensures.value

pub put_buffer-requires-clause-fresh : goal.put_buffer-requires-clause-fresh
put_buffer-requires-clause-fresh g c = ap (λ (b : KeptBuffer). b.since.is_new) c.in_ok-buffer.ensures

pub put_buffer-requires-clause-bare : goal.put_buffer-requires-clause-bare
put_buffer-requires-clause-bare g c = ap (λ (b : KeptBuffer). b.shelf.rows) c.in_ok-buffer.ensures

pub returns-clause-ok : goal.returns-clause-ok
returns-clause-ok g c = now-opened c.args.name c.args.is_file c.args.lines _ _ _ _ _ _ c.self.view_is c.in_ok-put_buffer.ensures.ok (ap (λ (b : KeptBuffer). b.seen) c.in_ok-buffer.ensures)

pub returns-clause-keeps : goal.returns-clause-keeps
returns-clause-keeps g c = open-keeps c.args.name c.args.is_file c.args.lines _ _ (now-opened c.args.name c.args.is_file c.args.lines _ _ _ _ _ _ c.self.view_is c.in_ok-put_buffer.ensures.ok (ap (λ (b : KeptBuffer). b.seen) c.in_ok-buffer.ensures))

pub returns-clause-full : goal.returns-clause-full
returns-clause-full g c = λ full.
    let past : 1024 ≤ c.first_gap-n.result = gap-full (all_seen c.self.inside.buffers.items) c.first_gap-n.result c.self.invariant.has.few (c.first_gap-n.ensures ∙ ap (λ bs. first_gap (all_seen bs)) c.as_slice.ensures.value) (ap (λ (k : Kept). buffer_count k.flat.buffers) c.self.view_is ∙ full) in
    absurd (omega (arith, c.if-n-ge-MAX_BUFFERS.false))
