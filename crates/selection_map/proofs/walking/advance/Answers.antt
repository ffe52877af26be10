use Rattle.std.proofs.Common.{◌≡◌, true, false, sym, ◌∙◌, arith}
use Rattle.selection_map.specs.Walking.{is_due}
use Rattle.selection_map.proofs.WalkLemmas.{can-small, next-small, advance-step, advance-same, advance-stop, advance-all}
use Rattle.selection_map.proofs.walking.advance.Goals as goal

pub is_due-requires-clause-at_small : goal.is_due-requires-clause-at_small
is_due-requires-clause-at_small g c = (can-small _ _ _ _ c.loop-passed.invariant.can).end

pub is_due-requires-clause-onto_small : goal.is_due-requires-clause-onto_small
is_due-requires-clause-onto_small g c = (can-small _ _ _ _ c.loop-passed.invariant.can).reach.onto

pub with_shift-reach-requires-clause-reach_small : goal.with_shift-reach-requires-clause-reach_small
with_shift-reach-requires-clause-reach_small g c = (can-small _ _ _ _ c.loop-passed.invariant.can).reach

pub with_shift-reach-requires-clause-shift_small : goal.with_shift-reach-requires-clause-shift_small
with_shift-reach-requires-clause-shift_small g c = next-small c.args.way c.args.shifts.now _ c.args.at c.nth-shift.result c.loop-passed.invariant.can c.loop-passed-test.true c.nth-shift.ensures

pub loop-passed-preserved : goal.loop-passed-preserved
loop-passed-preserved g c =
    let due : is_due c.args.way c.args.at c.nth-shift.result c.loop-passed.reach ≡ true = sym c.is_due.ensures ∙ c.if-not-is_due.false in
    rw c.with_shift-reach.ensures (record {
      can = advance-step c.args.way c.args.shifts.now c.loop-passed.reach c.loop-passed.passed c.args.at c.nth-shift.result c.loop-passed.invariant.can c.loop-passed-test.true c.nth-shift.ensures due;
      same = advance-same c.args.way c.args.shifts.now c.loop-passed.reach c.loop-passed.passed c.args.at c.nth-shift.result c.loop-passed-test.true c.nth-shift.ensures due ∙ c.loop-passed.invariant.same;
      few = omega (arith, c.loop-passed-test.true);
      turns = omega (arith, c.tick-in-loop-passed.ensures, c.loop-passed.invariant.turns);
    })

pub returns-then-not-is_due-clause-goes_on : goal.returns-then-not-is_due-clause-goes_on
returns-then-not-is_due-clause-goes_on g c =
    let due : is_due c.args.way c.args.at c.nth-shift.result c.loop-passed.reach ≡ false = sym c.is_due.ensures ∙ c.if-not-is_due.true in
    advance-stop c.args.way c.args.shifts.now c.loop-passed.reach c.loop-passed.passed c.args.at c.nth-shift.result _ c.loop-passed-test.true c.nth-shift.ensures due c.loop-passed.invariant.same

pub returns-clause-goes_on : goal.returns-clause-goes_on
returns-clause-goes_on g c = advance-all c.args.way c.args.shifts.now c.loop-passed.reach c.loop-passed.passed c.args.at _ c.loop-passed-test.false c.loop-passed.invariant.same
