use Rattle.std.proofs.Common.{◌∙◌, arith}
use Rattle.selection_set.specs.Listing.{ranges_of}
use Rattle.edit_ops.specs.declared.spans.LineReach.TheVariants.{Touched}
use Rattle.edit_ops.specs.Indenting.{indent_at, has_more}
use Rattle.edit_ops.proofs.SpanLemmas.{reached-below}
use Rattle.edit_ops.proofs.LineEditLemmas.{indents-keep, kept-splices}
use Rattle.edit_ops.proofs.indenting.indent.Goals as goal

pub has_more-requires : goal.has_more-requires
has_more-requires c =
    reached-below c.args.lines.now Touched (ranges_of c.args.lines.now c.args.sels.now.list) c.as_slice-n-items.result.now c.loop-n.n-index (c.as_slice-n-items.ensures.value ∙ c.in_ok-numbers.ensures.reached) c.loop-n-test.true

pub returns-clause-splices : goal.returns-clause-splices
returns-clause-splices c =
    kept-splices c.args.lines.now Touched (ranges_of c.args.lines.now c.args.sels.now.list) (has_more c.args.lines.now) (indent_at c.args.lines.now c.args.how c.args.width c.args.tabstop.columns) c.as_slice-n-items.result.now c.loop-n.n-index
    c.loop-n.splices.items (indents-keep c.args.lines.now c.args.how c.args.width c.args.tabstop.columns c.lines_reached.ensures.valid.is_text) (c.as_slice-n-items.ensures.value ∙ c.in_ok-numbers.ensures.reached) (omega (arith, c.loop-n-test.false))
    c.loop-n.invariant.so_far c.loop-n.invariant.ends
