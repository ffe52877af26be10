use Rattle.std.proofs.Common.{◌-◌, arith}
use Rattle.text_model.specs.Texts.{offset}
use Rattle.buffer_store.proofs.MarkingLemmas.{place-is, end-offset}
use Rattle.buffer_store.proofs.marking.before.Goals as goal

pub returns-then-at-line_count : goal.returns-then-at-line_count
returns-then-at-line_count c =
    place-is c.args.lines.now c.last_place.result (offset c.args.lines.now c.args.at - 1) c.last_place.ensures.place (omega (arith, c.last_place.ensures.last, end-offset c.args.lines.now c.args.at c.line_count.result c.requires.place c.line_count.ensures.value c.if-at-line_count.true))

pub returns : goal.returns
returns c = place-is c.args.lines.now c.in-Some.place (offset c.args.lines.now c.args.at - 1) c.in-Some.ensures.prev.0 (omega (arith, c.in-Some.ensures.prev.1))
