use Rattle.std.proofs.Common.{length, ap, arith}
use Rattle.edit_ops.proofs.LeftLemmas.{edit-small, ok-left, length-marks}
use Rattle.edit_ops.specs.Passing.{none_passed}
use Rattle.edit_ops.proofs.leaving.left_list.Goals as goal

pub homes_of-requires : goal.homes_of-requires
homes_of-requires c = edit-small c.args.last c.args.splices.now c.args.shifts.now c.requires.edit

pub settled-requires-clause-main : goal.settled-requires-clause-main
settled-requires-clause-main c =
    omega (arith, ap length c.in_ok-list.ensures, length-marks c.args.last c.args.shifts.now (none_passed c.args.last) c.args.splices.now, c.requires.main)

pub settled-requires-clause-few : goal.settled-requires-clause-few
settled-requires-clause-few c =
    omega (arith, ap length c.in_ok-list.ensures, length-marks c.args.last c.args.shifts.now (none_passed c.args.last) c.args.splices.now, c.requires.few)

pub returns : goal.returns
returns c =
    ok-left c.settled.result c.args.last c.args.main c.args.splices.now c.args.shifts.now c.in_ok-list.list.items c.requires.main c.in_ok-list.ensures c.settled.ensures
