use Rattle.std.proofs.lemmas.Result.{err_from_is_err_and}
use Rattle.text_model.specs.Texts.{offset}
use Rattle.regex_select.specs.Walks.{own_chars}
use Rattle.regex_select.proofs.MatchedLemmas.{room-more}
use Rattle.regex_select.proofs.PartLemmas.{parts-within}
use Rattle.regex_select.proofs.taking.push_parts.Goals as goal

pub returns-in_err-push_found-clause-refused : goal.returns-in_err-push_found-clause-refused
returns-in_err-push_found-clause-refused c =
    let text = c.args.lines.now in
    let p = err_from_is_err_and c.from_residual.result c.from_residual.ensures.1 in
    rw (p.1, p.2) (room-more _ _ _ (parts-within text (own_chars text c.args.sel) (offset text c.args.sel.low) c.args.spans.now c.loop-span.span-index _ c.args.list.now.items c.loop-span.list.items c.part.result c.loop-span.from.passed c.walk_to-to.result.passed c.loop-span-test.true c.walk_to-to.ensures.passed c.part.ensures.range c.loop-span.invariant.come) c.in_err-push_found.ensures.refused)
