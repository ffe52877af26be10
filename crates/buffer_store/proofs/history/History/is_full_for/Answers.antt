use Rattle.std.proofs.Common.{◌≡◌, length, arith}
use Rattle.buffer_store.proofs.HistoryLemmas.{full-none, full-some}
use Rattle.buffer_store.proofs.history.History.is_full_for.Goals as goal

pub returns-then-group-who : goal.returns-then-group-who
returns-then-group-who c =
    let long : c.len-nodes.result ≡ length c.self.inside.branches.items = omega (arith, c.len-nodes.ensures, c.self.inside.branches.ok.0) in
    full-some c.args.who c.len-nodes.result c.self.inside.lines c.self.inside.branches.items c.self.inside.current c.self.inside.saved c.self.inside.pending c.in-Some.group c.args.self.now c.self.view_is c.in-Some.is c.if-group-who.true long

pub returns-in-None : goal.returns-in-None
returns-in-None c =
    let long : c.len-nodes.result ≡ length c.self.inside.branches.items = omega (arith, c.len-nodes.ensures, c.self.inside.branches.ok.0) in
    full-none c.args.who c.len-nodes.result c.self.inside.lines c.self.inside.branches.items c.self.inside.current c.self.inside.saved c.self.inside.pending c.args.self.now c.self.view_is c.in-None.is long
