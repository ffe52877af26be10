use Rattle.std.proofs.Common.{◌≡◌, ◌+◌, List, [], ◌∷◌, length, map, Option, IfSome, option_map, string_bytes, sym, ap, ◌∙◌, subst, arith, length-append}
use Rattle.std.specs.Arc.{arc_value}
use Rattle.client_links.specs.Wires.{Wire}
use Rattle.client_links.specs.Doors.{counted_on, led_by, IsNextOf}
use Rattle.session_desk.specs.Tokens.{PassView}
use Rattle.session_events.specs.declared.event.Entry.{Entry}
use Rattle.kak_engine.specs.Steps.{given_by}
use Rattle.engine_desk.specs.Sharing.{Frame}
use Rattle.session_server.specs.declared.job.LinkJob.{LinkJob}
use Rattle.session_server.specs.declared.status.ServerStatus.{ServerStatus}
use Rattle.session_server.specs.Sessions.{CameInOrder}
use Rattle.session_server.specs.Hosting.{JobView, job_view, Admitted, IsUnused}
use Rattle.session_server.proofs.SessionLemmas.{never-own, left-behind, counted-one, admitted-one, file_left, as-admitted, led-one, refused-order, handed-order, map-one}
use Rattle.session_server.proofs.accepting.accept_all.Goals as goal

pub returns-in-Err-start-clause-back : goal.returns-in-Err-start-clause-back
returns-in-Err-start-clause-back g c =
    let i = c.loop.invariant in let e = c.in-Err-start.ensures.err in let o = c.in-Ok.ensures.ok in
    let pass_is = ap (λ (j : JobView). j.pass) o.job_is in
    subst (λ (back : Option (PassView Entry Frame)). IfSome back (IsUnused c.args.host.now.keeper.place (length (g.P.Spawner.started c.start.new.spawner)))) (sym e.1) (
      ap (λ (p : PassView Entry Frame). p.place) pass_is ∙ i.place,
      ap (λ (p : PassView Entry Frame). p.number) pass_is ∙ i.made ∙ ap length (sym e.0),
      never-own given_by c.in-Ok.job.pass.number c.in-Ok.job.pass.seen c.in-Ok.ensures.ready.new,
    )

-- the link that came behind those that are served, and that isn't
pub returns-in-Err-start-clause-in_order : goal.returns-in-Err-start-clause-in_order
returns-in-Err-start-clause-in_order g c =
    let i = c.loop.invariant in let e = c.in-Err-start.ensures.err in
    let links = map (λ job. g.A.Link.Link.wire job.link) (g.P.Spawner.started c.loop.spawner) in
    subst (λ (js : List (LinkJob g.row.A-Link.Denot g.row.O.Denot g.row.G.Denot g.row.A-Link-Spent.Denot)). CameInOrder c.in-Err-start.stopped.why (map (λ job. g.A.Link.Link.wire job.link) js) (g.A.Acceptor.door c.args.acceptor.now).to_come (g.A.Acceptor.door c.next-in-loop.new.self).to_come) (sym e.0)
    (handed-order c.in-Err-start.stopped.why links (g.A.Link.Link.wire c.in-Came.link) _ _ _ e.2 i.order c.in-Came.ensures.in_order)

pub returns-in-Err-clause-in_order : goal.returns-in-Err-clause-in_order
returns-in-Err-clause-in_order g c =
    let i = c.loop.invariant in
    let links = map (λ job. g.A.Link.Link.wire job.link) (g.P.Spawner.started c.loop.spawner) in
    subst (λ (why : ServerStatus). CameInOrder why links (g.A.Acceptor.door c.args.acceptor.now).to_come (g.A.Acceptor.door c.next-in-loop.new.self).to_come) (sym c.stopped_by.ensures.why)
    (refused-order c.loop.host c.in-Err.why links (g.A.Link.Link.wire c.in-Came.link) _ _ _ c.in-Err.ensures.why i.order c.in-Came.ensures.in_order)

pub loop-preserved-in_default : goal.loop-preserved-in_default
loop-preserved-in_default g c =
    let i = c.loop.invariant in let ok = c.in_default.ensures.ok in let o = c.in-Ok.ensures.ok in let job = c.in-Ok.job in
    let before = g.P.Spawner.started c.loop.spawner in
    let longer : length (g.P.Spawner.started c.start.new.spawner) ≡ length before + 1 = ap length ok.0 ∙ length-append before (job ∷ []) in
    let made = ap (λ k. k.made) o.keeper in
    let wires = λ (js : List (LinkJob g.row.A-Link.Denot g.row.O.Denot g.row.G.Denot g.row.A-Link-Spent.Denot)). map (λ j. g.A.Link.Link.wire j.link) js in
    let next = subst (λ (w : Wire). IsNextOf w (g.A.Acceptor.door c.loop.acceptor).to_come (g.A.Acceptor.door c.next-in-loop.new.self).to_come) (sym c.in-Ok.ensures.link) c.in-Came.ensures.in_order in
    record {
      fit = c.start.ensures.fit;
      home = o.home ∙ i.home;
      place = ap (λ k. k.place) o.keeper ∙ i.place;
      given = ap (λ k. k.given) o.keeper ∙ i.given;
      made = made ∙ ap (λ n. n + 1) i.made ∙ sym longer;
      most = omega (arith, longer, o.room, i.made);
      jobs = subst (λ (js : List (LinkJob g.row.A-Link.Denot g.row.O.Denot g.row.G.Denot g.row.A-Link-Spent.Denot)). Admitted (λ j. job_view (arc_value j.desk) j.pass (option_map (λ name. string_bytes name) j.file)) c.args.host.now.home c.args.host.now.keeper.place 0 c.args.host.now.file js) (sym ok.0)
          (admitted-one (λ j. job_view (arc_value j.desk) j.pass (option_map (λ name. string_bytes name) j.file)) c.args.host.now.home c.args.host.now.keeper.place 0 c.args.host.now.file before job i.jobs
          (as-admitted c.args.host.now.home c.args.host.now.keeper.place c.args.host.now.file before _ _ _ o i.home i.place i.made i.file));
      file = o.file ∙ sym (ap (λ js. file_left c.args.host.now.file js) ok.0 ∙ left-behind c.args.host.now.file before job);
      listens = c.in-Came.ensures.comes.1 ∙ i.listens;
      came = c.in-Came.ensures.comes.2 ∙ counted-one _ _ _ i.came ∙ ap (λ n. counted_on (g.A.Acceptor.door c.args.acceptor.now).came n) (sym longer);
      order = led-one (wires before) (g.A.Link.Link.wire job.link) _ _ _ i.order next
          ∙ ap (λ ls. led_by ls (g.A.Acceptor.door c.next-in-loop.new.self).to_come) (sym (ap wires ok.0 ∙ map-one (λ j. g.A.Link.Link.wire j.link) before job));
      accepts = c.in-Came.ensures.counted ∙ i.accepts;
      spawns = ok.1 ∙ i.spawns;
    }
