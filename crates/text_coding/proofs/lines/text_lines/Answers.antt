use Rattle.std.proofs.Common.{length, subst, ◌<◌, ◌++◌, chars, refl, sym, ap, ◌∙◌}
use Rattle.std.proofs.lemmas.Result.{IfOk-weaker}
use Rattle.text_model.specs.declared.TheConstants.{MAX_CHARS}
use Rattle.text_model.specs.Changes.{ended}
use Rattle.text_coding.proofs.ReturnLemmas.{form-open}
use Rattle.text_coding.proofs.lines.text_lines.Goals as goal

pub returns-clause-lines : goal.returns-clause-lines
returns-clause-lines c =
    IfOk-weaker c.closed.result _ _ (λ text e. e ∙ ap ended (sym (c.loop-parted.invariant.parted ∙ ap (λ r. c.loop-parted.lines ++ r) (form-open c.args.eol (chars c.loop-parted.rest.now) (c.in_default.ensures.none refl))))) c.closed.ensures.text

pub returns-clause-full : goal.returns-clause-full
returns-clause-full c = λ e.
    subst (λ t. MAX_CHARS < length (ended t)) (sym (c.loop-parted.invariant.parted ∙ ap (λ r. c.loop-parted.lines ++ r) (form-open c.args.eol (chars c.loop-parted.rest.now) (c.in_default.ensures.none refl)))) (c.closed.ensures.full e)
