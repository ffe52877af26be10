use Rattle.std.proofs.Common.{◌≡◌, ◌≤◌, option_map, string_bytes, length, map}
use Rattle.std.specs.Arc.{arc_value}
use Rattle.client_links.specs.Doors.{counted_on, led_by}
use Rattle.session_server.specs.Hosting.{Admitted, job_view}
use Rattle.session_server.proofs.SessionLemmas.{file_left}
use Rattle.session_server.proofs.accepting.accept_all.Given as goal

-- the clients so far were let in one after another, and nothing failed
abbrev pub invariant-loop : goal.invariant-loop
invariant-loop g l = record {
  fit : g.P.Spawner.fit l.spawner;
  home : l.host.home ≡ l.fn.host.home;
  place : l.host.keeper.place ≡ l.fn.host.keeper.place;
  given : l.host.keeper.given ≡ l.fn.host.keeper.given;
  made : l.host.keeper.made ≡ length (g.P.Spawner.started l.spawner);
  most : length (g.P.Spawner.started l.spawner) ≤ 1000000;
  jobs : Admitted (λ job. job_view (arc_value job.desk) job.pass (option_map (λ name. string_bytes name) job.file)) l.fn.host.home l.fn.host.keeper.place 0 l.fn.host.file (g.P.Spawner.started l.spawner);
  file : l.host.file ≡ file_left l.fn.host.file (g.P.Spawner.started l.spawner);
  listens : (g.A.Acceptor.door l.acceptor).listens ≡ (g.A.Acceptor.door l.fn.acceptor).listens;
  came : (g.A.Acceptor.door l.acceptor).came ≡ counted_on (g.A.Acceptor.door l.fn.acceptor).came (length (g.P.Spawner.started l.spawner));
  order : (g.A.Acceptor.door l.fn.acceptor).to_come ≡ led_by (map (λ job. g.A.Link.Link.wire job.link) (g.P.Spawner.started l.spawner)) (g.A.Acceptor.door l.acceptor).to_come;
  accepts : (g.A.Acceptor.door l.acceptor).faults ≡ (g.A.Acceptor.door l.fn.acceptor).faults;
  spawns : g.P.Spawner.faults l.spawner ≡ g.P.Spawner.faults l.fn.spawner;
}
