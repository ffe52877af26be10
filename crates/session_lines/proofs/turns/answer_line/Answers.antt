use Rattle.std.proofs.Common.{refl, sym, ap, subst, ◌∙◌}
use Rattle.requests.specs.Reading.{IsLineError}
use Rattle.json_writing.specs.Refusals.{refusal_bytes}
use Rattle.session_lines.specs.Session.{played_by, bytes_of_refusal}
use Rattle.session_lines.specs.Serving.{PhaseAnswers}
use Rattle.session_lines.proofs.TakingLemmas.{said-answered}
use Rattle.session_lines.proofs.turns.answer_line.Goals as goal

pub returns-in-Ok-clause-answers : goal.returns-in-Ok-clause-answers
returns-in-Ok-clause-answers g c =
    subst (λ read. PhaseAnswers g.S.Seat.gives (g.S.Seat.seated c.args.seat.now) (g.S.Seat.seated c.play_request.new.seat) (played_by read) (bytes_of_refusal read) c.play_request.result) (sym c.in-Ok.ensures.request) c.play_request.ensures.answers

pub returns-in-Err-Refused-clause-answers : goal.returns-in-Err-Refused-clause-answers
returns-in-Err-Refused-clause-answers g c =
    let read = subst (λ e. IsLineError e (g.Q.Reader.reads c.args.line.now)) c.in-Err-Refused.field-0-is c.in-Err-Refused.ensures.error in
    said-answered _ _ _ _ _ (ap played_by read) (ap refusal_bytes c.in-Err-Refused.refusal-is ∙ sym (ap bytes_of_refusal read)) refl
