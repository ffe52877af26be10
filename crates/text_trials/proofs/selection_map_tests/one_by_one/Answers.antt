use Rattle.std.proofs.Common.{List, subst}
use Rattle.std.proofs.lemmas.List.{drop_more}
use Rattle.text_model.specs.declared.coords.Shift.{Shift}
use Rattle.selection_map.specs.Catching.{IsCatchable}
use Rattle.text_trials.proofs.TrialLemmas.{catchable-small, catchable-on}
use Rattle.text_trials.proofs.selection_map_tests.one_by_one.Goals as goal

pub map_sels-requires : goal.map_sels-requires
map_sels-requires c =
    let P : List Shift → Type 0 = λ l. IsCatchable l c.loop-shift.sels in
    catchable-small _ _ c.loop-shift.sels (subst P (drop_more c.args.shifts.now c.loop-shift.shift-index _ c.loop-shift-test.true) c.loop-shift.invariant)

pub loop-shift-preserved : goal.loop-shift-preserved
loop-shift-preserved c =
    let P : List Shift → Type 0 = λ l. IsCatchable l c.loop-shift.sels in
    catchable-on _ _ c.loop-shift.sels c.map_sels.new.sels (subst P (drop_more c.args.shifts.now c.loop-shift.shift-index _ c.loop-shift-test.true) c.loop-shift.invariant) c.map_sels.ensures.settles
