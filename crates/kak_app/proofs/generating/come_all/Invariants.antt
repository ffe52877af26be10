use Rattle.std.proofs.Common.{◌≡◌, ◌≤◌}
use Rattle.kak_app.specs.Generated.{comings}
use Rattle.kak_app.specs.Generating.{Adds, AreHere, StaysHonest}
use Rattle.kak_app.proofs.generating.come_all.Given as goal

abbrev pub invariant-loop-who : goal.invariant-loop-who
invariant-loop-who g l = record {
  adds : Adds (comings l.who) l.fn.engine.history l.engine.history;
  within : l.who ≤ l.clients;
  whole : l.engine.mark ≡ l.fn.engine.mark;
  honest : StaysHonest l.fn.engine l.engine;
  here : AreHere l.who l.engine.history;
}
