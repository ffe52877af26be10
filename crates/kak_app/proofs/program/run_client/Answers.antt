use Rattle.std.proofs.Common.{◌∙◌, subst}
use Rattle.kak_app.specs.Runs.{around_run, Ran}
use Rattle.kak_app.proofs.RunLemmas.{nothing-ran}
use Rattle.kak_app.proofs.program.run_client.Goals as goal

pub returns-in-Ok-clause-answers : goal.returns-in-Ok-clause-answers
returns-in-Ok-clause-answers g c =
    let first = around_run (g.I.Source.inlet c.args.input.now) (g.K.Sink.outlet c.args.output.now) (g.O.Outside.seen c.args.outside) in
    let last = around_run (g.I.Source.inlet c.serve_client-ended.new.input) (g.K.Sink.outlet c.serve_client-ended.new.output) (g.O.Outside.seen c.serve_client-ended.result.1) in
    let ran = subst (λ keys. Ran keys c.serve_client-ended.result.0 first last) (c.as_slice.ensures.value ∙ c.in-Ok.ensures) c.serve_client-ended.ensures in
    c.status_of.ensures.answers _ _ _ ran

pub returns-in-Err-clause-answers : goal.returns-in-Err-clause-answers
returns-in-Err-clause-answers g c = nothing-ran _ _
