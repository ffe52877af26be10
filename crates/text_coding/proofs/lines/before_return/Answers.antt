use Rattle.std.proofs.Common.{rules, length, ◌≡◌, ◌∷◌, ◌++◌, [], sym, ap, ◌∙◌}
use Rattle.text_coding.specs.Surveying.{last_of}
use Rattle.text_coding.proofs.FormLemmas.{last-push}
use Rattle.text_coding.proofs.LineLemmas.{return-behind, last-other, last-none}
use Rattle.text_coding.proofs.lines.before_return.Goals as goal

pub returns-in_err-last-clause-none : goal.returns-in_err-last-clause-none
returns-in_err-last-clause-none c = λ _.
    let empty : length c.args.run.now ≡ 0 = search rules in
    last-other c.args.run.now c.utf8.run (λ e. last-none c.args.run.now empty e)

pub returns-then-last-ne13-clause-none : goal.returns-then-last-ne13-clause-none
returns-then-last-ne13-clause-none c = λ _.
    last-other c.args.run.now c.utf8.run
    (λ e. c.if-last-ne13.true (sym (ap (last_of 0) (sym c.as_bytes.ensures.value ∙ c.in_ok-last.ensures.cases.0) ∙ last-push 0 c.in_ok-last.front.now c.in_ok-last.last.now) ∙ e))

pub returns-clause-some : goal.returns-clause-some
returns-clause-some c =
    return-behind c.args.run.now c.in_ok-last.front.now c.split_at.result.0.now c.utf8.run
    (sym c.as_bytes.ensures.value ∙ c.in_ok-last.ensures.cases.0 ∙ ap (λ x. c.in_ok-last.front.now ++ x ∷ []) c.if-last-ne13.false)
    c.split_at.ensures.front
