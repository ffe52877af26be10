use Rattle.std.proofs.Common.{Some}
use Rattle.kak_engine.proofs.resting.run_in_step.Given as goal

abbrev pub ghosts-run_inside : goal.ghosts-run_inside
ghosts-run_inside g a = record { began = Some (record { who = a.who; stored = a.world.stored }) }
