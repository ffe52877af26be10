use Rattle.std.proofs.Common.{ap, sym, subst, ◌∙◌}
use Rattle.kak_world.specs.Flat.{listed_for}
use Rattle.kak_world.specs.Seen.{buffer_kept, IsShelfOf}
use Rattle.kak_world.proofs.AnswerLemmas.{on-ok, on-err-of}
use Rattle.kak_world.proofs.ListLemmas.{up-outside, listed-seen, listed-is}
use Rattle.kak_world.specs.Stored.{is_nobody}
use Rattle.kak_world.proofs.StoredLemmas.{but-outside, listed-leaves}
use Rattle.kak_world.proofs.buffer.WorldBuffer.add_list.Goals as goal

pub add_first-requires : goal.add_first-requires
add_first-requires c = subst (λ t. IsShelfOf t c.self.inside.shelf) (sym c.lines.ensures) c.self.invariant

pub invariant_of-self : goal.invariant_of-self
invariant_of-self c = listed-is (listed_for c.args.holder) _ _ _ _ c.add_first.result c.lines.ensures c.add_first.ensures.ok c.add_first.ensures.err c.self.invariant

pub returns-clause-ok : goal.returns-clause-ok
returns-clause-ok c = on-ok c.add_first.result c.add_first.ensures.ok (λ l. listed-seen _ _ _ (listed_for c.args.holder) _ _ _ _ c.self.view_is c.lines.ensures l)

pub returns-clause-up : goal.returns-clause-up
returns-clause-up c = on-ok c.add_first.result c.add_first.ensures.ok (λ l. up-outside _ _ _ _ c.add_first.new.shelf _ c.self.view_is l.up)

pub returns-clause-err : goal.returns-clause-err
returns-clause-err c = on-err-of c.add_first.result c.add_first.ensures.err (λ e. ap (λ shelf. buffer_kept c.self.inside.name c.self.inside.is_file c.self.inside.store shelf c.self.inside.since) e ∙ c.self.view_is)

pub returns-clause-stays : goal.returns-clause-stays
returns-clause-stays c = on-ok c.add_first.result c.add_first.ensures.ok (λ l. but-outside is_nobody _ _ _ _ _ _ _ c.self.view_is (listed-leaves (listed_for c.args.holder) _ _ _ l))
