use Rattle.std.proofs.Common.{◌≡◌, set, None, ap, ◌∙◌, arith}
use Rattle.kak_world.specs.Flat.{lowest}
use Rattle.kak_world.specs.Seen.{all_seen}
use Rattle.kak_world.specs.Dropping.{emptied}
use Rattle.kak_world.proofs.DroppingLemmas.{other-dropped, other-number, last-number}
use Rattle.kak_world.proofs.KeptLemmas.{seen-length, seen-set, seen-at}
use Rattle.kak_world.proofs.StoredLemmas.{leave-after, leave-set, gone-leaves}
use Rattle.kak_world.proofs.dropping.drop_at.Goals as goal

pub returns-then-to-len-clause-number : goal.returns-then-to-len-clause-number
returns-then-to-len-clause-number c =
    let found : c.lowest_other-to.result ≡ lowest (emptied c.args.n (all_seen c.args.buffers.now.items)) = c.lowest_other-to.ensures ∙ ap (λ bs. lowest (emptied c.args.n (all_seen bs))) c.as_slice.ensures.value in
    last-number c.args.n (all_seen c.args.buffers.now.items) (omega (arith, found, c.if-to-len.true, c.len.ensures, c.args.buffers.now.ok.0, seen-length c.args.buffers.now.items))

pub returns-clause-ok : goal.returns-clause-ok
returns-clause-ok c =
    seen-set _ _ _ ∙ ap (λ xs. set xs c.args.n None) (seen-set _ _ _)
    ∙ other-dropped c.args.n c.lowest_other-to.result c.args.clients.now (all_seen c.args.buffers.now.items) _ _
    (c.lowest_other-to.ensures ∙ ap (λ bs. lowest (emptied c.args.n (all_seen bs))) c.as_slice.ensures.value)
    (omega (arith, c.if-to-len.false, c.len.ensures, c.args.buffers.now.ok.0, seen-length c.args.buffers.now.items))
    (seen-at c.args.buffers.now.items c.lowest_other-to.result _ c.index_mut.ensures.value) c.in_ok-list_viewers_in.ensures.ok

pub returns-clause-number : goal.returns-clause-number
returns-clause-number c =
    other-number c.args.n c.lowest_other-to.result (all_seen c.args.buffers.now.items)
    (c.lowest_other-to.ensures ∙ ap (λ bs. lowest (emptied c.args.n (all_seen bs))) c.as_slice.ensures.value)
    (omega (arith, c.if-to-len.false, c.len.ensures, c.args.buffers.now.ok.0, seen-length c.args.buffers.now.items))

pub returns-clause-leaves : goal.returns-clause-leaves
returns-clause-leaves c = λ other. leave-after other _ _ _ (leave-set other _ _ _ _ c.index_mut.ensures.value (c.in_ok-list_viewers_in.ensures.leaves other)) (gone-leaves other c.args.n _)
