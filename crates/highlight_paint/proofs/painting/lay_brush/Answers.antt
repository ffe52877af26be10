use Rattle.std.proofs.Common.{◌≡◌, ◌+◌, ◌++◌, ap₂, ◌∙◌, subst}
use Rattle.text_model.specs.Texts.{nth_line}
use Rattle.highlight_paint.specs.Overs.{brush_overs}
use Rattle.highlight_paint.specs.Painting.{IsLaidAt}
use Rattle.highlight_paint.proofs.PaintLemmas.{upto-more}
use Rattle.highlight_paint.proofs.painting.lay_brush.Goals as goal

pub loop-k-preserved : goal.loop-k-preserved
loop-k-preserved c =
    let text = c.args.part.lines.now in
    let n = c.args.part.top + c.loop-k.k in
    let same : c.as_slice.result.now ≡ brush_overs c.args.brush (c.args.part.top + c.loop-k.k) (nth_line c.args.part.lines.now (c.args.part.top + c.loop-k.k)) =
    c.as_slice.ensures.value ∙ c.in_ok-push_brush.ensures ∙ ap₂ (λ os cs. os ++ brush_overs c.args.brush (c.args.part.top + c.loop-k.k) cs) c.clear.ensures.items c.line.ensures.value in
    upto-more (brush_overs c.args.brush) text c.args.part.top c.args.grounds.now.items c.loop-k.k c.loop-k.grounds.items c.lay_at.new.grounds.items c.loop-k.invariant
    (subst (λ os. IsLaidAt c.loop-k.k os c.loop-k.grounds.items c.lay_at.new.grounds.items) same c.in_ok-lay_at.ensures)
