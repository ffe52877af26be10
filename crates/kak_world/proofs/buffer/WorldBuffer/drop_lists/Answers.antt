use Rattle.std.proofs.Common.{not}
use Rattle.std.specs.List.{filter}
use Rattle.list_shelf.specs.Shelves.{same_holder, is_held_by}
use Rattle.kak_world.proofs.ListLemmas.{up-outside, now-lists, left-can, left-got, left-up}
use Rattle.kak_world.proofs.StoredLemmas.{but-outside, dropped-leaves}
use Rattle.kak_world.proofs.buffer.WorldBuffer.drop_lists.Goals as goal

pub trim-requires : goal.trim-requires
trim-requires c = left-can c.args.holder _ _ _ c.self.invariant c.drop_lists.ensures

pub invariant_of-self : goal.invariant_of-self
invariant_of-self c = (left-got c.args.holder _ _ _ _ c.self.invariant c.drop_lists.ensures c.trim.ensures).is

pub returns-clause-seen : goal.returns-clause-seen
returns-clause-seen c = now-lists _ _ _ _ c.trim.new.self _ (λ ls. filter (λ list. not (is_held_by c.args.holder list)) ls) c.self.view_is (left-got c.args.holder _ _ _ _ c.self.invariant c.drop_lists.ensures c.trim.ensures).lists_are

pub returns-clause-up : goal.returns-clause-up
returns-clause-up c = up-outside _ _ _ _ c.trim.new.self _ c.self.view_is (left-up c.args.holder _ _ _ _ c.self.invariant c.drop_lists.ensures c.trim.ensures)

pub returns-clause-stays : goal.returns-clause-stays
returns-clause-stays c = but-outside (same_holder c.args.holder) _ _ _ _ _ _ _ c.self.view_is (dropped-leaves c.args.holder _ _ _ c.drop_lists.ensures c.trim.ensures)
