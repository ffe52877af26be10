use Rattle.std.proofs.lemmas.Result.{err_from_is_err_and}
use Rattle.text_model.specs.Texts.{offset}
use Rattle.regex_select.specs.Selecting.{selected_by}
use Rattle.regex_select.specs.Walks.{own_chars}
use Rattle.regex_select.proofs.MatchedLemmas.{found-is, found-within, room-more}
use Rattle.regex_select.proofs.taking.push_matches.Goals as goal

pub returns-in_err-push_found-clause-refused : goal.returns-in_err-push_found-clause-refused
returns-in_err-push_found-clause-refused c =
    let text = c.args.lines.now in
    let p = err_from_is_err_and c.from_residual.result c.from_residual.ensures.1 in
    let is = found-is text c.args.sel c.args.spans.now c.loop-span.span-index _ c.walk_to-first.result c.walk_to-end.result c.found.result c.walk_to-first.ensures.passed c.walk_to-end.ensures.passed c.found.ensures.range in
    rw (p.1, p.2) (room-more _ _ _ (found-within text (selected_by (own_chars text c.args.sel) (offset text c.args.sel.low)) c.args.spans.now c.loop-span.span-index _ c.args.list.now.items c.loop-span.list.items c.found.result c.loop-span-test.true c.loop-span.invariant.ranges is) c.in_err-push_found.ensures.refused)
