use Rattle.std.proofs.Common.{◌<◌, length, min, arith}
use Rattle.text_model.specs.Texts.{offset, last_place}
use Rattle.text_model.proofs.PlaceLemmas.{offset-below}
use Rattle.buffer_store.proofs.MarkingLemmas.{place-is, end-offset, inside-by_line}
use Rattle.buffer_store.proofs.marking.at_most_last.Goals as goal

pub returns-then-at-line_count : goal.returns-then-at-line_count
returns-then-at-line_count c =
    place-is c.args.lines.now c.last_place.result (min (offset c.args.lines.now c.args.at) (last_place c.args.lines.now)) c.last_place.ensures.place (omega (arith, c.last_place.ensures.last, end-offset c.args.lines.now c.args.at c.line_count.result c.requires c.line_count.ensures.value c.if-at-line_count.true))

pub returns : goal.returns
returns c =
    let h = inside-by_line c.args.lines.now c.args.at c.line_count.result c.requires c.line_count.ensures.value c.if-at-line_count.false in
    let lt : offset c.args.lines.now c.args.at < length c.args.lines.now = offset-below c.args.lines.now c.args.at h in
    place-is c.args.lines.now c.args.at (min (offset c.args.lines.now c.args.at) (last_place c.args.lines.now)) h (omega arith)
