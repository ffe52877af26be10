use Rattle.text_model.specs.Texts.{offset}
use Rattle.regex_select.specs.Selecting.{selected_by}
use Rattle.regex_select.specs.Walks.{own_chars}
use Rattle.regex_select.proofs.MatchedLemmas.{found-is}
use Rattle.regex_select.proofs.SoughtLemmas.{found-inside, selected-more}
use Rattle.regex_select.proofs.taking.selected.Goals as goal

pub loop-span-preserved : goal.loop-span-preserved
loop-span-preserved c =
    let text = c.args.lines.now in
    let is = found-is text c.args.sel c.args.spans.now c.loop-span.span-index _ c.walk_to-first.result c.walk_to-end.result c.found.result c.walk_to-first.ensures.passed c.walk_to-end.ensures.passed c.found.ensures.range in
    record {
      walk = c.walk_to-end.ensures.walk;
      inside = found-inside text c.loop-span.list.items c.push_selected.new.list.items c.found.result c.loop-span.invariant.inside c.found.ensures.inside c.in_ok-push_selected.ensures;
      ranges = selected-more text (selected_by (own_chars text c.args.sel) (offset text c.args.sel.low)) c.args.spans.now c.loop-span.span-index _ c.loop-span.list.items c.push_selected.new.list.items c.found.result c.loop-span-test.true c.loop-span.invariant.ranges is c.in_ok-push_selected.ensures;
    }
