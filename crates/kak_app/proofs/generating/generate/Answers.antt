use Rattle.std.proofs.Common.{◌≡◌, string_bytes, None, refl, ap, ◌∙◌}
use Rattle.kak_engine.specs.Honesty.{Outside, IsHonest}
use Rattle.kak_engine.specs.Steps.{answers_in, asked_in}
use Rattle.kak_engine.specs.Held.{HeldEngine}
use Rattle.kak_engine.proofs.SeatingLemmas.{honest-whole}
use Rattle.kak_app.specs.Runs.{Around}
use Rattle.kak_app.proofs.GenLemmas.{honest-new, left-lost, left-whole, nothing-generated, session-answers, session-used}
use Rattle.kak_app.proofs.generating.generate.Goals as goal

pub play_session-played-requires-clause-whole : goal.play_session-played-requires-clause-whole
play_session-played-requires-clause-whole g c = ap (λ (e : HeldEngine). e.mark) c.in-Ok.ensures.new

pub play_session-played-requires-clause-fresh : goal.play_session-played-requires-clause-fresh
play_session-played-requires-clause-fresh g c = ap (λ (e : HeldEngine). e.history) c.in-Ok.ensures.new

pub returns-in-Ok-clause-answers : goal.returns-in-Ok-clause-answers
returns-in-Ok-clause-answers g c = λ inlet.
    let engine : HeldEngine = c.play_session-played.new.engine in
    let first : Outside = g.O.Outside.seen c.args.outside in
    let last : Outside = g.O.Outside.seen c.part_engine-outside.result in
    let old : Around = record { inlet = inlet; outlet = g.K.Sink.outlet c.args.output.now; outside = first } in
    let new : Around = record { inlet = inlet; outlet = g.K.Sink.outlet c.write_summary-status.new.output; outside = last } in
    let honest = c.play_session-played.ensures.honest first (honest-new _ first _ c.in-Ok.ensures.new) in
    session-answers (λ text. string_bytes text) c.args.session c.play_session-played.result c.write_summary-status.result engine.history old new
    c.play_session-played.ensures.summed c.play_session-played.ensures.lost c.part_engine-outside.ensures.asked
    (left-lost c.play_session-played.result engine.mark engine.inside engine.history first last (λ e. c.part_engine-outside.ensures.lost (c.is_err.ensures.value ∙ e) first honest))
    (left-whole c.play_session-played.result (engine.mark ≡ None) (IsHonest (answers_in engine.history) (asked_in engine.history) first last) c.play_session-played.ensures.whole
    (λ e m. honest-whole engine first last honest m (c.part_engine-outside.ensures.whole (c.is_err.ensures.value ∙ e))))
    c.write_summary-status.ensures.written c.write_summary-status.ensures.lost c.write_summary-status.ensures.unwritten refl

pub returns-in-Ok-clause-used : goal.returns-in-Ok-clause-used
returns-in-Ok-clause-used g c = session-used (λ text. string_bytes text) c.play_session-played.result c.write_summary-status.result (g.K.Sink.outlet c.args.output.now) (g.K.Sink.outlet c.write_summary-status.new.output) c.write_summary-status.ensures.written c.write_summary-status.ensures.lost

pub returns-in-Err-clause-answers : goal.returns-in-Err-clause-answers
returns-in-Err-clause-answers g c = λ inlet. rw c.in-Err.ensures.none (nothing-generated c.args.session _)
