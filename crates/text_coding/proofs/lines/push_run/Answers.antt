use Rattle.std.proofs.Common.{length, ◌++◌, chars, sym, ap, subst, ◌∙◌, arith}
use Rattle.std.proofs.lemmas.Result.{on_ok_weaker}
use Rattle.text_model.specs.Texts.{IsLine}
use Rattle.text_coding.proofs.FillLemmas.{closed-line}
use Rattle.text_coding.proofs.LineLemmas.{written-line}
use Rattle.text_coding.proofs.lines.push_run.Goals as goal

pub push-requires-2 : goal.push-requires-2
push-requires-2 c =
    subst IsLine (sym (written-line c.args.run.now _ _ _ _ c.utf8.run c.clear.ensures.bytes c.in_ok-push_str.ensures.bytes c.in_ok-push.ensures.bytes c.as_str.ensures.value)) (closed-line (chars c.args.run.now) c.requires)

pub returns-clause-ok : goal.returns-clause-ok
returns-clause-ok c =
    on_ok_weaker c.push-2.result
    (λ e. e ∙ ap (λ t. c.args.lines.now ++ t) (written-line c.args.run.now _ _ _ _ c.utf8.run c.clear.ensures.bytes c.in_ok-push_str.ensures.bytes c.in_ok-push.ensures.bytes c.as_str.ensures.value))
    c.push-2.ensures.ok

pub returns-clause-full : goal.returns-clause-full
returns-clause-full c = λ e.
    omega (arith, c.push-2.ensures.full.0 e, ap length (written-line c.args.run.now _ _ _ _ c.utf8.run c.clear.ensures.bytes c.in_ok-push_str.ensures.bytes c.in_ok-push.ensures.bytes c.as_str.ensures.value))
