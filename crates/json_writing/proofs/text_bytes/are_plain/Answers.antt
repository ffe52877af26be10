use Rattle.std.proofs.Common.{sym, ◌∙◌}
use Rattle.std.proofs.lemmas.Bool.{and_parts}
use Rattle.json_writing.proofs.PlainLemmas.{plain-none, plain-more, plain-all}
use Rattle.json_writing.proofs.text_bytes.are_plain.Goals as goal

pub loop-c-init : goal.loop-c-init
loop-c-init c = λ t. plain-none c.args.text.now

pub loop-c-preserved : goal.loop-c-preserved
loop-c-preserved c =
    λ t. let both = and_parts c.loop-c.plain c.is_plain-plain.result t in
    plain-more c.args.text.now c.loop-c.c-index c.c-item.result c.loop-c-test.true c.c-item.is (c.loop-c.invariant both.0) (sym c.is_plain-plain.ensures ∙ both.1)

pub returns : goal.returns
returns c = λ t. plain-all c.args.text.now c.loop-c.c-index c.loop-c-test.false (c.loop-c.invariant t)
