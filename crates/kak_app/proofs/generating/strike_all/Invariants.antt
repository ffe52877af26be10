use Rattle.std.proofs.Common.{◌≡◌, ◌-◌, ◌≤◌}
use Rattle.kak_app.specs.Generating.{AddsDrawn, AreHere, StaysHonest}
use Rattle.kak_app.proofs.generating.strike_all.Given as goal

abbrev pub invariant-loop : goal.invariant-loop
invariant-loop g l = record {
  drawn : AddsDrawn l.session.clients l.session.keys l.session.seed (l.session.keys - l.counter) l.draws.state l.fn.engine.history l.engine.history;
  within : l.counter ≤ l.session.keys;
  whole : l.engine.mark ≡ l.fn.engine.mark;
  honest : StaysHonest l.fn.engine l.engine;
  here : AreHere l.session.clients l.engine.history;
}
