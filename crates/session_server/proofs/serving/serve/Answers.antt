use Rattle.std.proofs.Common.{◌≡◌, ◌+◌, ◌≤◌, ℕ, List, length, map, All, Option, option_map, string_bytes, sym, ap, ◌∙◌, subst}
use Rattle.std.specs.Arc.{arc_value}
use Rattle.client_links.specs.Doors.{counted_on}
use Rattle.session_desk.specs.Tokens.{Home, DeskPlace, KeeperView}
use Rattle.session_events.specs.declared.event.Entry.{Entry}
use Rattle.engine_desk.specs.Sharing.{Frame, frame_of}
use Rattle.session_server.specs.declared.status.ServerStatus.{ServerStatus}
use Rattle.session_server.specs.Sessions.{SessionStands, IfServed, lost, AcceptsFor, SpawnsFor, MayHaveRisen}
use Rattle.std.specs.Prelude.{IfOk}
use Rattle.session_server.specs.Hosting.{StopsHostingFor, job_view, noted, serving_end, passes_back}
use Rattle.session_server.proofs.SessionLemmas.{places-back, session-stands, ends-count, caused-by, given-all, none-out}
use Rattle.session_server.proofs.ClosedLemmas.{stands-closed, caused-closed, accepts-may, spawns-may}
use Rattle.session_server.proofs.serving.serve.Goals as goal

pub take_back-ends-requires-clause-places : goal.take_back-ends-requires-clause-places
take_back-ends-requires-clause-places g c =
    let a = c.accept_all-stopped.ensures in let home = c.in-Ok.host.home in let place = c.in-Ok.host.keeper.place in
    let here = places-back (λ j. job_view (arc_value j.desk) j.pass (option_map (λ name. string_bytes name) j.file)) (λ j. g.A.Link.Link.wire j.link) g.A.Link.Link.spent home place 0 c.in-Ok.host.file (g.P.Spawner.started c.accept_all-stopped.new.spawner) c.in-Ok-gather.results.items c.in-Ok-gather.ensures.meet a.jobs in
    let same = ap (λ (k : KeeperView Entry Frame). k.place) c.into_parts-desk.ensures.keeper ∙ a.place in
    subst (λ (p : DeskPlace Frame). All (λ r. r.1.place ≡ p) c.in-Ok-gather.results.items) (sym same) here

pub returns-clause-stands : goal.returns-clause-stands
returns-clause-stands g c =
    let a = c.accept_all-stopped.ensures in let home = c.in-Ok.host.home in let place = c.in-Ok.host.keeper.place in let new = c.in-Ok.ensures in let parts = c.into_parts-desk.ensures in
    let jobs = g.P.Spawner.started c.accept_all-stopped.new.spawner in let back = c.accept_all-stopped.result.back in
    let none = ap (λ (k : KeeperView Entry Frame). k.given) parts.keeper ∙ a.given ∙ new.given in
    let given = given-all _ _ _ (map noted c.in-Ok-gather.results.items) (passes_back back) c.take_rest.ensures.given c.take_back-ends.ensures.given none in
    let made = c.take_rest.ensures.made ∙ c.take_back-ends.ensures.made ∙ ap (λ (k : KeeperView Entry Frame). k.made) parts.keeper ∙ a.made in
    let frames = c.in-Ok-close.ensures.frame ∙ ap (λ (h : Home Frame). h.frame) (c.deref-3.ensures ∙ parts.desk ∙ a.home) ∙ new.frame_is in
    let stands = session-stands (λ j. job_view (arc_value j.desk) j.pass (option_map (λ name. string_bytes name) j.file)) (λ j. g.A.Link.Link.wire j.link) g.A.Link.Link.spent home place c.in-Ok.host.file jobs c.in-Ok-gather.results.items back c.take_rest.new.keeper c.in-Ok-ends.ends.items c.in-Ok-close.engine (frame_of c.args.engine)
    (g.A.Acceptor.door c.args.acceptor.now).to_come (g.A.Acceptor.door c.accept_all-stopped.new.acceptor).to_come c.accept_all-stopped.result.why a.in_order frames new.frame_is c.in-Ok-gather.ensures.meet a.jobs given made a.back c.in-Ok-close.ensures.history (subst (λ r. IfOk r (λ ends. ends.items ≡ map serving_end c.in-Ok-gather.results.items)) c.in-Ok-ends.is c.take_back-ends.ensures.ends) c.history.ensures.legal c.history.ensures.marked in
    let named = subst (λ (name : Option (List ℕ)). SessionStands g.A.Link.Link.spent (frame_of c.args.engine) name (g.A.Acceptor.door c.args.acceptor.now).to_come (g.A.Acceptor.door c.accept_all-stopped.new.acceptor).to_come c.accept_all-stopped.result.why c.in-Ok-ends.ends.items c.in-Ok-close.engine) new.file_is stands in
    stands-closed _ _ _ _ _ _ _ c.in-Ok-close.engine c.close-engine.result c.close-engine.ensures.history c.close-engine.ensures.mark c.close-engine.ensures.frame named

pub returns-clause-cause : goal.returns-clause-cause
returns-clause-cause g c =
    let a = c.accept_all-stopped.ensures in let home = c.in-Ok.host.home in let place = c.in-Ok.host.keeper.place in let parts = c.into_parts-desk.ensures in
    let jobs = g.P.Spawner.started c.accept_all-stopped.new.spawner in
    let count = ends-count (λ j. job_view (arc_value j.desk) j.pass (option_map (λ name. string_bytes name) j.file)) (λ j. g.A.Link.Link.wire j.link) g.A.Link.Link.spent home place jobs c.in-Ok-gather.results.items c.in-Ok-ends.ends.items c.in-Ok-gather.ensures.meet (subst (λ r. IfOk r (λ ends. ends.items ≡ map serving_end c.in-Ok-gather.results.items)) c.in-Ok-ends.is c.take_back-ends.ensures.ends) in
    let stops = subst (λ (k : KeeperView Entry Frame). StopsHostingFor c.accept_all-stopped.result.why k.seen k.mark (length jobs)) (sym parts.keeper) a.why in
    let caused = caused-by c.accept_all-stopped.result.why c.in-Ok-close.engine _ _ _ _ _ _ (length jobs) (length c.in-Ok-ends.ends.items)
    stops c.take_back-ends.ensures.begins c.take_rest.ensures.begins c.in-Ok-close.ensures.history.begins c.take_back-ends.ensures.mark c.take_rest.ensures.mark c.in-Ok-close.ensures.history.mark count c.history.ensures.legal in
    caused-closed c.accept_all-stopped.result.why (length c.in-Ok-ends.ends.items) c.in-Ok-close.engine c.close-engine.result c.close-engine.ensures.history c.close-engine.ensures.mark caused

pub returns-clause-most : goal.returns-clause-most
returns-clause-most g c =
    let a = c.accept_all-stopped.ensures in let home = c.in-Ok.host.home in let place = c.in-Ok.host.keeper.place in
    let jobs = g.P.Spawner.started c.accept_all-stopped.new.spawner in
    let count = ends-count (λ j. job_view (arc_value j.desk) j.pass (option_map (λ name. string_bytes name) j.file)) (λ j. g.A.Link.Link.wire j.link) g.A.Link.Link.spent home place jobs c.in-Ok-gather.results.items c.in-Ok-ends.ends.items c.in-Ok-gather.ensures.meet (subst (λ r. IfOk r (λ ends. ends.items ≡ map serving_end c.in-Ok-gather.results.items)) c.in-Ok-ends.is c.take_back-ends.ensures.ends) in
    subst (λ n. n ≤ 1000000) (sym count) a.most

pub returns-clause-came : goal.returns-clause-came
returns-clause-came g c =
    let a = c.accept_all-stopped.ensures in let home = c.in-Ok.host.home in let place = c.in-Ok.host.keeper.place in
    let jobs = g.P.Spawner.started c.accept_all-stopped.new.spawner in
    let count = ends-count (λ j. job_view (arc_value j.desk) j.pass (option_map (λ name. string_bytes name) j.file)) (λ j. g.A.Link.Link.wire j.link) g.A.Link.Link.spent home place jobs c.in-Ok-gather.results.items c.in-Ok-ends.ends.items c.in-Ok-gather.ensures.meet (subst (λ r. IfOk r (λ ends. ends.items ≡ map serving_end c.in-Ok-gather.results.items)) c.in-Ok-ends.is c.take_back-ends.ensures.ends) in
    subst (λ n. IfServed c.accept_all-stopped.result.why ((g.A.Acceptor.door c.accept_all-stopped.new.acceptor).came ≡ counted_on (g.A.Acceptor.door c.args.acceptor.now).came (n + lost c.accept_all-stopped.result.why))) (sym count) a.came

pub unreachable-requires : goal.unreachable-requires
unreachable-requires g c =
    let a = c.accept_all-stopped.ensures in let home = c.in-Ok.host.home in let place = c.in-Ok.host.keeper.place in let parts = c.into_parts-desk.ensures in
    let jobs = g.P.Spawner.started c.accept_all-stopped.new.spawner in
    let none = ap (λ (k : KeeperView Entry Frame). k.given) parts.keeper ∙ a.given ∙ c.in-Ok.ensures.given in
    let given = given-all _ _ _ (map noted c.in-Ok-gather.results.items) (passes_back c.accept_all-stopped.result.back) c.take_rest.ensures.given c.take_back-ends.ensures.given none in
    let made = c.take_rest.ensures.made ∙ c.take_back-ends.ensures.made ∙ ap (λ (k : KeeperView Entry Frame). k.made) parts.keeper ∙ a.made in
    none-out (λ j. job_view (arc_value j.desk) j.pass (option_map (λ name. string_bytes name) j.file)) (λ j. g.A.Link.Link.wire j.link) g.A.Link.Link.spent home place jobs c.in-Ok-gather.results.items (passes_back c.accept_all-stopped.result.back) c.take_rest.new.keeper.given c.take_rest.new.keeper.made _
    c.in-Ok-gather.ensures.meet given made c.in_default-close.ensures.out.1 c.in_default-close.ensures.out.2

pub returns-in_default-ends-clause-accept_faults : goal.returns-in_default-ends-clause-accept_faults
returns-in_default-ends-clause-accept_faults g c =
    subst (λ (s : ServerStatus). AcceptsFor s (g.A.Acceptor.door c.args.acceptor.now).faults (g.A.Acceptor.door c.accept_all-stopped.new.acceptor).faults) (sym c.out_of_memory-in_default-ends.ensures.why)
    (accepts-may c.accept_all-stopped.result.why _ _ c.accept_all-stopped.ensures.accept_faults)

pub returns-in_default-ends-clause-spawn_faults : goal.returns-in_default-ends-clause-spawn_faults
returns-in_default-ends-clause-spawn_faults g c =
    subst (λ (s : ServerStatus). SpawnsFor s (g.P.Spawner.faults c.args.spawner.now) (g.P.Spawner.faults c.gather.new.self)) (sym c.out_of_memory-in_default-ends.ensures.why)
    (subst (λ n. MayHaveRisen (g.P.Spawner.faults c.args.spawner.now) n) (sym c.gather.ensures.faults) (spawns-may c.accept_all-stopped.result.why _ _ c.accept_all-stopped.ensures.spawn_faults))
