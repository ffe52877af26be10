use Rattle.std.proofs.Common.{sym, ap, ◌∙◌, arith}
use Rattle.highlight_paint.specs.Painters.{Highlighter}
use Rattle.highlight_paint.specs.Numbers.{draws_signs}
use Rattle.highlight_paint.proofs.NumberLemmas.{signs-not, signs-more, signs-here, signs-none}
use Rattle.highlight_paint.proofs.numbering.scope_has_signs.Goals as goal

pub loop-row-preserved-then-not-is_of_scope : goal.loop-row-preserved-then-not-is_of_scope
loop-row-preserved-then-not-is_of_scope g c =
    signs-not c.args.scope c.args.rows.now c.loop-row.row-index c.row-item.result c.loop-row-test.true c.row-item.is (sym c.is_of_scope.ensures ∙ c.if-not-is_of_scope.true) ∙ c.loop-row.invariant

pub returns-then-draws_signs : goal.returns-then-draws_signs
returns-then-draws_signs g c =
    sym (sym c.loop-row.invariant ∙ signs-here c.args.scope c.args.rows.now c.loop-row.row-index c.row-item.result c.loop-row-test.true c.row-item.is (sym c.is_of_scope.ensures ∙ c.if-not-is_of_scope.false)
    (ap (λ (r : Highlighter). draws_signs r.paints) (sym c.row.view_is) ∙ sym c.draws_signs.ensures ∙ c.if-draws_signs.true))

pub loop-row-preserved : goal.loop-row-preserved
loop-row-preserved g c =
    signs-more c.args.scope c.args.rows.now c.loop-row.row-index c.row-item.result c.loop-row-test.true c.row-item.is (sym c.is_of_scope.ensures ∙ c.if-not-is_of_scope.false)
    (ap (λ (r : Highlighter). draws_signs r.paints) (sym c.row.view_is) ∙ sym c.draws_signs.ensures ∙ c.if-draws_signs.false) ∙ c.loop-row.invariant

pub returns : goal.returns
returns g c = sym (sym c.loop-row.invariant ∙ signs-none c.args.scope c.args.rows.now c.loop-row.row-index (omega (arith, c.loop-row-test.false)))
