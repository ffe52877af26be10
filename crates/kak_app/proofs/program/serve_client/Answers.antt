use Rattle.std.proofs.Common.{refl, sym, ap, ◌∙◌, subst, Err}
use Rattle.session_lines.specs.declared.playing.Stop.TheVariants.{NoMemory}
use Rattle.kak_engine.specs.Honesty.{Outside, IsHonest}
use Rattle.kak_engine.specs.Seating.{WasLost}
use Rattle.kak_engine.specs.Steps.{answers_in, asked_in, parting_by}
use Rattle.kak_app.specs.Runs.{around_run, Ran}
use Rattle.kak_app.proofs.RunLemmas.{nothing-ran, nobody-else, served-ran, whole-mark, outside-is}
use Rattle.kak_app.proofs.program.serve_client.Goals as goal

pub returns-in-Err : goal.returns-in-Err
returns-in-Err g c =
    let first = around_run (g.I.Source.inlet c.args.input.now) (g.K.Sink.outlet c.args.output.now) (g.O.Outside.seen c.args.outside) in
    subst (λ outside. Ran c.args.keys.now (Err NoMemory) first (around_run (g.I.Source.inlet c.args.input.now) (g.K.Sink.outlet c.args.output.now) (g.O.Outside.seen outside))) (sym c.in-Err.ensures.none)
    (nothing-ran c.args.keys.now first)

pub part-outside-requires : goal.part-outside-requires
part-outside-requires g c = record {
  whole = λ e.
      whole-mark c.attend-ended.result _ _ (ap (λ s. s.engine.mark) c.in-Ok.ensures.new) c.attend-ended.ensures.whole (sym c.is_lost.ensures ∙ e);
}

pub returns-in-Ok : goal.returns-in-Ok
returns-in-Ok g c =
    let last : Outside = g.O.Outside.seen c.part-outside.result in
    let engine = c.attend-ended.new.seat.engine in
    let kept = c.attend-ended.ensures.kept ∙ ap (λ s. s.first) c.in-Ok.ensures.new in
    let left = outside-is c.attend-ended.result engine.mark engine.inside engine.history (g.O.Outside.seen c.args.outside) last
    (λ e. subst (λ (first : Outside). WasLost engine.history engine.mark engine.inside first last) kept (c.part-outside.ensures.lost (c.is_lost.ensures ∙ e)))
    (λ e. subst (λ (first : Outside). IsHonest (answers_in engine.history) (asked_in engine.history) first last) kept (c.part-outside.ensures.whole (c.is_lost.ensures ∙ e))) in
    let nothing = ap (λ s. s.engine.history) c.in-Ok.ensures.new in
    served-ran parting_by _ c.attend-ended.result _ _ _ _ (ap (λ s. s.who) c.in-Ok.ensures.new) (ap (λ s. s.engine.limit) c.in-Ok.ensures.new) (ap (λ s. s.engine.mark) c.in-Ok.ensures.new) c.attend-ended.ensures.same
    (nobody-else _ _ refl refl c.attend-ended.ensures.same nothing) c.attend-ended.ensures.legal c.attend-ended.ensures.served c.attend-ended.ensures.fault c.attend-ended.ensures.cause c.part-outside.ensures.asked left
