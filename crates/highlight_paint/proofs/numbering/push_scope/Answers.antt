use Rattle.std.proofs.Common.{◌++◌, map, sym, ap, ◌∙◌, arith}
use Rattle.highlight_paint.specs.Painters.{Highlighter}
use Rattle.highlight_paint.specs.Numbers.{numbering, painter_numbers}
use Rattle.highlight_paint.proofs.NumberLemmas.{numbering-not, numbering-more, numbering-none}
use Rattle.highlight_paint.proofs.numbering.push_scope.Goals as goal

pub loop-row-preserved-then-not-is_of_scope : goal.loop-row-preserved-then-not-is_of_scope
loop-row-preserved-then-not-is_of_scope g c =
    numbering-not c.args.scope c.args.rows.now c.loop-row.row-index c.row-item.result (map numbering c.args.numbers.now.items) (map numbering c.loop-row.numbers.items)
    c.loop-row-test.true c.row-item.is (sym c.is_of_scope.ensures ∙ c.if-not-is_of_scope.true) c.loop-row.invariant

pub loop-row-preserved : goal.loop-row-preserved
loop-row-preserved g c =
    numbering-more c.args.scope c.args.rows.now c.loop-row.row-index c.row-item.result (map numbering c.args.numbers.now.items) (map numbering c.loop-row.numbers.items) (map numbering c.push_painter.new.numbers.items)
    c.loop-row-test.true c.row-item.is (sym c.is_of_scope.ensures ∙ c.if-not-is_of_scope.false)
    (c.in_ok-push_painter.ensures ∙ ap (λ (r : Highlighter). map numbering c.loop-row.numbers.items ++ painter_numbers r.paints) c.row.view_is) c.loop-row.invariant

pub returns : goal.returns
returns g c =
    numbering-none c.args.scope c.args.rows.now c.loop-row.row-index (map numbering c.args.numbers.now.items) (map numbering c.loop-row.numbers.items) (omega (arith, c.loop-row-test.false)) c.loop-row.invariant
