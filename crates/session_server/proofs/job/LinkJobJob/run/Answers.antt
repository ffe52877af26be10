use Rattle.std.proofs.Common.{ℕ, List, Option, option_map, string_bytes, subst}
use Rattle.session_desk.specs.Tokens.{Home}
use Rattle.engine_desk.specs.Sharing.{Frame}
use Rattle.session_server.specs.Rows.{ServesLink}
use Rattle.session_server.proofs.RowLemmas.{link-served}
use Rattle.session_server.proofs.job.LinkJobJob.run.Goals as goal

pub returns : goal.returns
returns g c =
    let job = c.args.self in let given = c.serve_link-ended.result in let e = c.serve_link-ended.ensures in let came = g.L.Link.wire job.link in let closed = g.L.Link.spent c.finish.result in
    let named : Home Frame → Option (List ℕ) → Type 0 = λ home name. ServesLink home.frame.limit name job.pass given.0 given.1 came closed in
    let row = link-served _ _ job.pass given.1 given.0 came (g.L.Link.wire c.serve_link-ended.new.link) closed c.requires.fresh e.same e.sees c.finish.ensures e.no_more e.served e.left e.drawn e.cause in
    subst (λ (home : Home Frame). named home (option_map (λ name. string_bytes name) job.file)) c.deref.ensures (subst (named c.deref.result.now) c.as_deref.ensures.value row)
