use Rattle.std.proofs.Common.{Some}
use Rattle.kak_engine.proofs.resting.leave_in_step.Given as goal

abbrev pub ghosts-leave_inside : goal.ghosts-leave_inside
ghosts-leave_inside g a = record { began = Some (record { who = a.who; stored = a.world.stored }) }
