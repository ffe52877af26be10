use Rattle.std.proofs.Common.{◌∙◌, arith}
use Rattle.selection_set.specs.Listing.{ranges_of}
use Rattle.edit_ops.specs.declared.spans.LineReach.TheVariants.{Joined}
use Rattle.edit_ops.specs.Joining.{join_at}
use Rattle.edit_ops.proofs.SpanLemmas.{reached-below}
use Rattle.edit_ops.proofs.LineEditLemmas.{joins-keep, reached-splices}
use Rattle.edit_ops.proofs.joining.join.Goals as goal

pub join_at-requires : goal.join_at-requires
join_at-requires c =
    omega (arith, reached-below c.args.lines.now Joined (ranges_of c.args.lines.now c.args.sels.now.list) c.as_slice-n-items.result.now c.loop-n.n-index (c.as_slice-n-items.ensures.value ∙ c.in_ok-numbers.ensures.reached) c.loop-n-test.true)

pub returns-clause-splices : goal.returns-clause-splices
returns-clause-splices c =
    reached-splices c.args.lines.now Joined (ranges_of c.args.lines.now c.args.sels.now.list) (join_at c.args.lines.now) c.as_slice-n-items.result.now c.loop-n.n-index c.loop-n.splices.items
    (joins-keep c.args.lines.now c.lines_reached.ensures.valid.is_text) (c.as_slice-n-items.ensures.value ∙ c.in_ok-numbers.ensures.reached) (omega (arith, c.loop-n-test.false)) c.loop-n.invariant.so_far c.loop-n.invariant.ends
