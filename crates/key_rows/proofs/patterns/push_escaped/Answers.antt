use Rattle.std.proofs.Common.{◌++◌, take, ap, sym, ◌∙◌, append_assoc, append-nil}
use Rattle.std.proofs.lemmas.List.{take_all}
use Rattle.key_rows.specs.Patterns.{escaped_pattern, escaped_one}
use Rattle.key_rows.proofs.PatternLemmas.{escaped-more}
use Rattle.key_rows.proofs.patterns.push_escaped.Goals as goal

pub loop-c-init : goal.loop-c-init
loop-c-init c = sym (append-nil c.args.pattern.now)

pub loop-c-preserved : goal.loop-c-preserved
loop-c-preserved c =
    c.in_ok-push_one.ensures
    ∙ ap (λ t. t ++ escaped_one c.c-item.result) c.loop-c.invariant
    ∙ append_assoc c.args.pattern.now (escaped_pattern (take c.loop-c.c-index c.args.chars.now)) (escaped_one c.c-item.result)
    ∙ ap (λ t. c.args.pattern.now ++ t) (sym (escaped-more c.args.chars.now c.loop-c.c-index c.c-item.result c.loop-c-test.true c.c-item.is))

pub returns : goal.returns
returns c = c.loop-c.invariant ∙ ap (λ t. c.args.pattern.now ++ escaped_pattern t) (take_all c.loop-c.c-index c.args.chars.now c.loop-c-test.false)
