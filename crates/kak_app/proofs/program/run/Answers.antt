use Rattle.std.proofs.Common.{map, subst, string_bytes}
use Rattle.kak_app.specs.Runs.{around_run}
use Rattle.kak_app.specs.Generated.{CallAnswers}
use Rattle.kak_app.proofs.GenLemmas.{named-taken, client-refused, client-taken}
use Rattle.kak_app.proofs.program.run.Goals as goal

pub returns-in-Some-clause-refused : goal.returns-in-Some-clause-refused
returns-in-Some-clause-refused g c = λ no. absurd (named-taken _ (map (λ word. string_bytes word) c.args.words.now) c.in-Some.ensures.named no)

pub returns-in-Some-clause-taken : goal.returns-in-Some-clause-taken
returns-in-Some-clause-taken g c = λ yes. c.generate.ensures.used

pub returns-in-Some-clause-answers : goal.returns-in-Some-clause-answers
returns-in-Some-clause-answers g c =
    let words = map (λ word. string_bytes word) c.args.words.now in
    let first = around_run (g.I.Source.inlet c.args.input.now) (g.K.Sink.outlet c.args.output.now) (g.O.Outside.seen c.args.outside) in
    let last = around_run (g.I.Source.inlet c.args.input.now) (g.K.Sink.outlet c.generate.new.output) (g.O.Outside.seen c.generate.result.1) in
    subst (λ session. CallAnswers session words c.generate.result.0 first last) c.in-Some.ensures.named (c.generate.ensures.answers (g.I.Source.inlet c.args.input.now))

pub returns-in-None-clause-refused : goal.returns-in-None-clause-refused
returns-in-None-clause-refused g c = client-refused (map (λ word. string_bytes word) c.args.words.now) c.run_client.result.0 c.in-None.ensures.named c.run_client.ensures.refused

pub returns-in-None-clause-taken : goal.returns-in-None-clause-taken
returns-in-None-clause-taken g c = client-taken (map (λ word. string_bytes word) c.args.words.now) c.run_client.result.0 c.in-None.ensures.named c.run_client.ensures.taken

pub returns-in-None-clause-answers : goal.returns-in-None-clause-answers
returns-in-None-clause-answers g c =
    let words = map (λ word. string_bytes word) c.args.words.now in
    let first = around_run (g.I.Source.inlet c.args.input.now) (g.K.Sink.outlet c.args.output.now) (g.O.Outside.seen c.args.outside) in
    let last = around_run (g.I.Source.inlet c.run_client.new.input) (g.K.Sink.outlet c.run_client.new.output) (g.O.Outside.seen c.run_client.result.1) in
    subst (λ session. CallAnswers session words c.run_client.result.0 first last) c.in-None.ensures.named c.run_client.ensures.answers
