use Rattle.std.proofs.Common.{◌≡◌, ◌≤◌}
use Rattle.kak_app.specs.Generated.{goings}
use Rattle.kak_app.specs.Generating.{Adds, StaysHonest}
use Rattle.kak_app.proofs.generating.leave_all.Given as goal

abbrev pub invariant-loop-who : goal.invariant-loop-who
invariant-loop-who g l = record {
  adds : Adds (goings l.who) l.fn.engine.history l.engine.history;
  within : l.who ≤ l.clients;
  whole : l.engine.mark ≡ l.fn.engine.mark;
  honest : StaysHonest l.fn.engine l.engine;
}
