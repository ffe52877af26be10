use Rattle.std.proofs.Common.{◌^◌, min, sym, ap, ◌∙◌}
use Rattle.highlight_paint.specs.Painters.{Highlighter}
use Rattle.highlight_paint.specs.Numbers.{painter_behind}
use Rattle.highlight_paint.proofs.NumberLemmas.{numbers-more}
use Rattle.highlight_paint.proofs.numbers.scope_behind.Goals as goal

pub loop-row-preserved : goal.loop-row-preserved
loop-row-preserved g c = record {
  small = c.painter_behind-at.ensures.small;
  rest = numbers-more c.args.tabstop.columns c.args.lines c.args.scope c.args.rows.now c.loop-row.row-index c.loop-row.at c.row-item.result c.painter_behind-at.result
      c.loop-row-test.true c.row-item.is (sym c.is_of_scope.ensures ∙ c.if-not-is_of_scope.false)
      (c.painter_behind-at.ensures.value ∙ ap (λ (r : Highlighter). min (painter_behind c.args.tabstop.columns c.args.lines c.loop-row.at r.paints) (2 ^ 31)) c.row.view_is)
      ∙ c.loop-row.invariant.rest;
}
