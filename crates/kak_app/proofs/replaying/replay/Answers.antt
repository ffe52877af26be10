use Rattle.std.proofs.Common.{◌≡◌, true, false, [], map, string_bytes, sym, ap, ◌∙◌, subst}
use Rattle.session_replay.specs.Players.{told_by_all}
use Rattle.kak_engine.specs.Honesty.{Outside, IsHonest}
use Rattle.kak_engine.specs.Seating.{WasLost}
use Rattle.kak_engine.specs.Steps.{answers_in, asked_in}
use Rattle.kak_app.specs.Replays.{is_call_for}
use Rattle.kak_app.proofs.RunLemmas.{whole-mark, outside-is}
use Rattle.kak_app.proofs.ReplayLemmas.{nothing-played, lines-replayed}
use Rattle.kak_app.proofs.replaying.replay.Goals as goal

pub returns-in-Err-clause-refused : goal.returns-in-Err-clause-refused
returns-in-Err-clause-refused g c = λ no.
    let called = is_call_for g.U.Ui.shown (map (λ word. string_bytes word) c.args.words.now) in
    let never : true ≡ false = sym c.if-not-is_replay_call.false ∙ c.is_replay_call.ensures ∙ ap called c.as_slice-boxes.ensures.value ∙ no in cc

pub returns-in-Ok-clause-refused : goal.returns-in-Ok-clause-refused
returns-in-Ok-clause-refused g c = λ no.
    let called = is_call_for g.U.Ui.shown (map (λ word. string_bytes word) c.args.words.now) in
    let never : true ≡ false = sym c.if-not-is_replay_call.false ∙ c.is_replay_call.ensures ∙ ap called c.as_slice-boxes.ensures.value ∙ no in cc

pub returns-in-Err-clause-answers : goal.returns-in-Err-clause-answers
returns-in-Err-clause-answers g c = rw c.in-Err.ensures.none (nothing-played _ _ _)

pub returns-in-Err-clause-used : goal.returns-in-Err-clause-used
returns-in-Err-clause-used g c = λ told. absurd (told (subst (λ uis. told_by_all g.U.Ui.shown uis ≡ []) c.as_slice-boxes.ensures.value (c.are_new.ensures.new c.if-not-are_new.false)))

pub returns-in-Ok-clause-used : goal.returns-in-Ok-clause-used
returns-in-Ok-clause-used g c = λ told. absurd (told (subst (λ uis. told_by_all g.U.Ui.shown uis ≡ []) c.as_slice-boxes.ensures.value (c.are_new.ensures.new c.if-not-are_new.false)))

pub part-outside-requires : goal.part-outside-requires
part-outside-requires g c = record {
  whole = λ e.
      whole-mark c.replay_session-ended.result.0 _ _ (ap (λ s. s.engine.mark) c.in-Ok.ensures.new) c.replay_session-ended.ensures.session.whole (sym c.is_lost.ensures ∙ e);
}

pub returns-in-Ok-clause-answers : goal.returns-in-Ok-clause-answers
returns-in-Ok-clause-answers g c =
    let last : Outside = g.O.Outside.seen c.part-outside.result in
    let ended = c.replay_session-ended in
    let engine = ended.result.1.engine in
    let kept = ended.ensures.session.kept_is ∙ ap (λ s. s.first) c.in-Ok.ensures.new in
    let left = outside-is ended.result.0 engine.mark engine.inside engine.history (g.O.Outside.seen c.args.outside) last
    (λ e. subst (λ (first : Outside). WasLost engine.history engine.mark engine.inside first last) kept (c.part-outside.ensures.lost (c.is_lost.ensures ∙ e)))
    (λ e. subst (λ (first : Outside). IsHonest (answers_in engine.history) (asked_in engine.history) first last) kept (c.part-outside.ensures.whole (c.is_lost.ensures ∙ e))) in
    c.replay_status.ensures.answers _ _ _ _ (lines-replayed _ _ ended.result.0 _ _ _ _ _ (ap (λ s. s.engine.limit) c.in-Ok.ensures.new) ended.ensures.session.limit ended.ensures.session.legal ended.ensures.replayed ended.ensures.fault c.part-outside.ensures.asked left)
