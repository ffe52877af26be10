use Rattle.std.proofs.Common.{refl}
use Rattle.list_shelf.specs.declared.holder.Holder.TheVariants.{Of}
use Rattle.kak_world.specs.Flat.{listed_for}
use Rattle.kak_world.specs.Dropping.{listed_for_viewer}
use Rattle.kak_world.proofs.AnswerLemmas.{on-ok}
use Rattle.kak_world.proofs.ListLemmas.{listed-none, listed-as}
use Rattle.kak_world.proofs.ViewerLemmas.{viewer-lists, no-viewer}
use Rattle.kak_world.proofs.lists.add_for_viewer.Goals as goal

pub returns-then-client-n-clause-ok : goal.returns-then-client-n-clause-ok
returns-then-client-n-clause-ok c = listed-none (listed_for_viewer c.args.n c.args.client.now) _ _ (λ b. no-viewer c.args.n c.args.client.now b c.if-client-n.true) c.requires

pub returns-clause-ok : goal.returns-clause-ok
returns-clause-ok c = on-ok c.add_first.result c.add_first.ensures.ok (λ l. listed-as (listed_for (Of c.args.client.now.who)) (listed_for_viewer c.args.n c.args.client.now) _ _ _ (λ b. viewer-lists c.args.n c.args.client.now b (listed_for (Of c.args.client.now.who) b) c.if-client-n.false refl) l)
