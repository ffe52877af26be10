use Rattle.std.proofs.Common.{sym, ◌∙◌}
use Rattle.json_writing.proofs.PlainLemmas.{plain-none, plain-more, plain-all, plain-whole}
use Rattle.json_writing.proofs.text_bytes.plain_front.Goals as goal

pub returns-then-are_plain-clause-plain : goal.returns-then-are_plain-clause-plain
returns-then-are_plain-clause-plain c = plain-whole c.args.text.now (c.are_plain.ensures c.if-are_plain.true)

pub loop-i-init : goal.loop-i-init
loop-i-init c = plain-none c.args.text.now

pub loop-i-preserved : goal.loop-i-preserved
loop-i-preserved c =
    plain-more c.args.text.now c.loop-i.i c.index-text-i.result c.loop-i-test.true c.index-text-i.is c.loop-i.invariant (sym c.is_plain.ensures ∙ c.if-not-is_plain.false)

pub returns-clause-plain : goal.returns-clause-plain
returns-clause-plain c = plain-whole c.args.text.now (plain-all c.args.text.now c.loop-i.i c.loop-i-test.false c.loop-i.invariant)
