use Rattle.std.proofs.Common.{arith}
use Rattle.text_model.proofs.PlaceLemmas.{offset-below}
use Rattle.compact_chars.specs.Rows.{chars_of}
use Rattle.regex_select.proofs.WalkLemmas.{IsPart, own-length, walk-place, part-walked, walk-further, begun-further}
use Rattle.regex_select.proofs.walking.pass_line.Goals as goal

pub line-line-requires : goal.line-line-requires
line-line-requires c = (walk-place c.args.lines.now c.args.sel c.args.walk c.requires.inside c.requires.walk c.requires.there).on_line

pub overflow_add-result : goal.overflow_add-result
overflow_add-result c =
    let part : IsPart c.args.lines.now c.args.sel c.args.walk (chars_of c.between.result) = part-walked c.args.lines.now c.args.sel c.args.walk (chars_of c.line-line.result) (chars_of c.between.result) c.at_most-end.result c.part_end.result c.requires.inside c.requires.walk c.requires.there c.line-line.ensures.value c.between.ensures c.at_most-end.ensures.behind c.at_most-end.ensures.end c.part_end.ensures.line c.part_end.ensures.high in
    omega (arith, part.few, c.pass-count.ensures.inside, own-length c.args.lines.now c.args.sel c.requires.inside, offset-below c.args.lines.now c.args.sel.high c.requires.inside.high, c.requires.small)

pub returns-clause-walk : goal.returns-clause-walk
returns-clause-walk c =
    let part : IsPart c.args.lines.now c.args.sel c.args.walk (chars_of c.between.result) = part-walked c.args.lines.now c.args.sel c.args.walk (chars_of c.line-line.result) (chars_of c.between.result) c.at_most-end.result c.part_end.result c.requires.inside c.requires.walk c.requires.there c.line-line.ensures.value c.between.ensures c.at_most-end.ensures.behind c.at_most-end.ensures.end c.part_end.ensures.line c.part_end.ensures.high in
    walk-further c.args.lines.now c.args.sel c.args.walk _ c.further.result c.pass-count.result.0 c.pass-count.result.1 c.requires.walk part c.pass-count.ensures.inside c.further.ensures.place c.further.ensures.offset c.pass-count.ensures.bytes c.pass-count.ensures.small

pub returns-clause-begun : goal.returns-clause-begun
returns-clause-begun c =
    let part : IsPart c.args.lines.now c.args.sel c.args.walk (chars_of c.between.result) = part-walked c.args.lines.now c.args.sel c.args.walk (chars_of c.line-line.result) (chars_of c.between.result) c.at_most-end.result c.part_end.result c.requires.inside c.requires.walk c.requires.there c.line-line.ensures.value c.between.ensures c.at_most-end.ensures.behind c.at_most-end.ensures.end c.part_end.ensures.line c.part_end.ensures.high in
    begun-further c.args.lines.now c.args.sel c.args.walk _ c.pass-count.result.0 c.args.byte part c.pass-count.ensures.some c.pass-count.ensures.inside c.pass-count.ensures.begun
