use Rattle.std.proofs.Common.{length, subst, arith, eqb-true, take_all}
use Rattle.std.proofs.lemmas.Bool.{eq-eqb}
use Rattle.selection_map.specs.declared.walking.ShiftWay.TheVariants.{Rising}
use Rattle.selection_map.specs.Walking.{IsRun}
use Rattle.selection_map.proofs.RunLemmas.{zero_shift, whole-run}
use Rattle.selection_map.proofs.catching.rises.Goals as goal

pub returns : goal.returns
returns c = (
  λ e. subst (IsRun Rising) (take_all c.run_length.result c.args.shifts.now (omega (arith, eqb-true c.run_length.result (length c.args.shifts.now) e))) c.run_length.ensures.run,
  λ r. eq-eqb c.run_length.result (length c.args.shifts.now) (whole-run Rising c.args.shifts.now c.run_length.result zero_shift r c.run_length.ensures.some c.run_length.ensures.few c.run_length.ensures.longest),
)
