use Rattle.std.proofs.Common.{refl, subst, ap, ◌∙◌, take, take_all}
use Rattle.list_shelf.specs.Shelves.{Shelved}
use Rattle.kak_world.specs.Seen.{IsListedBy}
use Rattle.kak_world.specs.Dropping.{listed_for_viewer, listed_for_viewers}
use Rattle.kak_world.proofs.ListLemmas.{listed-none, listed-more, listed-back}
use Rattle.kak_world.proofs.ViewerLemmas.{viewers-take}
use Rattle.kak_world.proofs.lists.add_for_viewers.Goals as goal

pub loop-client-init : goal.loop-client-init
loop-client-init c = listed-none _ _ _ (λ b. refl) c.requires

pub add_for_viewer-requires : goal.add_for_viewer-requires
add_for_viewer-requires c = c.loop-client.invariant.shelf

pub loop-client-preserved : goal.loop-client-preserved
loop-client-preserved c = listed-more (listed_for_viewers c.args.n (take c.loop-client.client-index c.args.clients.now)) (listed_for_viewer c.args.n c.client-item.result) _ _ _ _ _
    (viewers-take c.args.n c.loop-client.client-index c.args.clients.now c.client-item.result c.loop-client-test.true c.client-item.is) c.loop-client.invariant c.in-Ok.ensures.ok

pub returns-in-Err-clause-err : goal.returns-in-Err-clause-err
returns-in-Err-clause-err c =
    listed-back _ _ _ _ _ _ c.loop-client.invariant c.count-count.ensures
    (c.keep_first.ensures ∙ ap (λ (x : Shelved). let y : Shelved = record { limit = x.limit; log = x.log; rows = take c.count-count.result x.rows } in y) c.in-Err.ensures.err)

pub returns-clause-ok : goal.returns-clause-ok
returns-clause-ok c = subst (λ cs. IsListedBy (listed_for_viewers c.args.n cs) c.args.lines.now c.args.shelf.now c.loop-client.shelf) (take_all c.loop-client.client-index c.args.clients.now c.loop-client-test.false) c.loop-client.invariant
