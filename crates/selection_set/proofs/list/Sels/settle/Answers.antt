use Rattle.std.proofs.Common.{◌≡◌, ◌<◌, length, subst, arith}
use Rattle.std.proofs.lemmas.Grind.{common_steps}
use Rattle.selection_set.specs.Sweeping.{swept_sels, swept_sels_place, swept_listed}
use Rattle.selection_set.specs.Listing.{Listed, ranges_of, IsSettledIn}
use Rattle.selection_set.proofs.SettleLemmas.{swept-settles, swept-list}
use Rattle.selection_set.proofs.list.Sels.settle.Goals as goal

pub invariant_of-self : goal.invariant_of-self
invariant_of-self c =
    let e : c.truncate.new.self.items ≡ swept_sels c.self.inside.list.items = grind (arith, common_steps) in
    let f : c.sweep_slice-kept.result.1 ≡ swept_sels_place c.self.inside.list.items c.self.inside.main = grind (arith, common_steps) in
    rw (e, f) (swept-list c.self.inside.list.items c.self.inside.main c.self.invariant)

pub returns-clause-settles : goal.returns-clause-settles
returns-clause-settles c = λ text h o.
    let P : Listed → Type 0 = λ s. IsSettledIn text (ranges_of text c.args.self.now.list) c.args.self.now.main s in
    let Q : Listed → Type 0 = λ s. s.main < length s.list in
    let e : swept_listed c.args.self.now ≡ record { list = c.truncate.new.self.items; main = c.sweep_slice-kept.result.1 } = grind (arith, common_steps) in
    subst P e (swept-settles text c.args.self.now (subst Q c.self.view_is c.self.invariant.main_is) h o)
