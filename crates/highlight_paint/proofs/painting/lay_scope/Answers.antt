use Rattle.std.proofs.Common.{sym, ◌∙◌, arith, subst}
use Rattle.highlight_paint.specs.Painters.{Highlighter}
use Rattle.highlight_paint.specs.Overs.{overs_of}
use Rattle.highlight_paint.specs.Painting.{AreLaid}
use Rattle.highlight_paint.proofs.PaintLemmas.{rest-not, rest-more, rest-none}
use Rattle.highlight_paint.proofs.painting.lay_scope.Goals as goal

pub loop-row-preserved-then-not-is_of_scope : goal.loop-row-preserved-then-not-is_of_scope
loop-row-preserved-then-not-is_of_scope g c = record {
  same = c.loop-row.invariant.same;
  rest = rest-not c.args.faces.now c.args.scope c.args.rows.now c.loop-row.row-index c.args.part.lines.now c.args.part.top c.args.grounds.now.items c.loop-row.grounds.items c.row-item.result
      c.loop-row-test.true c.row-item.is (sym c.is_of_scope.ensures ∙ c.if-not-is_of_scope.true) c.loop-row.invariant.rest;
}

pub loop-row-preserved : goal.loop-row-preserved
loop-row-preserved g c = record {
  same = c.in_ok-lay_painter.ensures.same ∙ c.loop-row.invariant.same;
  rest = rest-more c.args.faces.now c.args.scope c.args.rows.now c.loop-row.row-index c.args.part.lines.now c.args.part.top c.args.grounds.now.items c.loop-row.grounds.items c.row-item.result c.lay_painter.new.grounds.items
      c.loop-row-test.true c.row-item.is (sym c.is_of_scope.ensures ∙ c.if-not-is_of_scope.false) c.loop-row.invariant.rest
      (subst (λ (r : Highlighter). AreLaid (λ n line. overs_of c.args.faces.now n line r.paints) c.args.part.lines.now c.args.part.top c.loop-row.grounds.items c.lay_painter.new.grounds.items) c.row.view_is c.in_ok-lay_painter.ensures);
}

pub returns : goal.returns
returns g c =
    rest-none c.args.faces.now c.args.scope c.args.rows.now c.loop-row.row-index c.args.part.lines.now c.args.part.top c.args.grounds.now.items c.loop-row.grounds.items (omega (arith, c.loop-row-test.false)) c.loop-row.invariant.rest
