use Rattle.std.proofs.Common.{◌-◌, sym, ap, subst, ◌∙◌, arith}
use Rattle.selection_map.specs.Reaching.{then_on}
use Rattle.selection_map.specs.Bounds.{IsSmallReach}
use Rattle.selection_set.proofs.HeldLemmas.{zero_sel}
use Rattle.selection_map.proofs.RunLemmas.{zero_shift}
use Rattle.selection_map.proofs.BackLemmas.{going-first, going-now, going-on}
use Rattle.selection_map.proofs.behind.carry_back.Goals as goal

pub loop-n-init : goal.loop-n-init
loop-n-init c = record { going = rw c.at_rest-way.ensures (going-first c.args.shifts.now c.args.sels.now c.requires.behind) }

pub gone-requires-clause-low_small : goal.gone-requires-clause-low_small
gone-requires-clause-low_small c = (going-now c.args.shifts.now c.args.sels.now c.loop-n.sels c.loop-n.n (c.loop-n.n - 1) c.loop-n.way zero_shift zero_sel (omega (arith, c.loop-n-test.true)) c.requires.fall c.requires.behind c.loop-n.invariant.going).low_small

pub gone-requires-clause-high_small : goal.gone-requires-clause-high_small
gone-requires-clause-high_small c = (going-now c.args.shifts.now c.args.sels.now c.loop-n.sels c.loop-n.n (c.loop-n.n - 1) c.loop-n.way zero_shift zero_sel (omega (arith, c.loop-n-test.true)) c.requires.fall c.requires.behind c.loop-n.invariant.going).high_small

pub gone-requires-clause-onto_small : goal.gone-requires-clause-onto_small
gone-requires-clause-onto_small c = (going-now c.args.shifts.now c.args.sels.now c.loop-n.sels c.loop-n.n (c.loop-n.n - 1) c.loop-n.way zero_shift zero_sel (omega (arith, c.loop-n-test.true)) c.requires.fall c.requires.behind c.loop-n.invariant.going).way_small.onto

pub then_on-way-requires-clause-a_small : goal.then_on-way-requires-clause-a_small
then_on-way-requires-clause-a_small c = subst IsSmallReach (sym c.reach_of.ensures) (going-now c.args.shifts.now c.args.sels.now c.loop-n.sels c.loop-n.n (c.loop-n.n - 1) c.loop-n.way _ zero_sel (omega (arith, c.loop-n-test.true)) c.requires.fall c.requires.behind c.loop-n.invariant.going).shift_small

pub then_on-way-requires-clause-b_small : goal.then_on-way-requires-clause-b_small
then_on-way-requires-clause-b_small c = (going-now c.args.shifts.now c.args.sels.now c.loop-n.sels c.loop-n.n (c.loop-n.n - 1) c.loop-n.way zero_shift zero_sel (omega (arith, c.loop-n-test.true)) c.requires.fall c.requires.behind c.loop-n.invariant.going).way_small

pub loop-n-preserved : goal.loop-n-preserved
loop-n-preserved c = record {
  going = going-on c.args.shifts.now c.args.sels.now c.loop-n.sels c.loop-n.n (c.loop-n.n - 1) c.loop-n.way c.then_on-way.result c.gone.result _ _ (omega (arith, c.loop-n-test.true)) c.gone.ensures (c.then_on-way.ensures ∙ ap (λ x. then_on x c.loop-n.way) c.reach_of.ensures) c.requires.fall c.requires.behind c.loop-n.invariant.going;
}
