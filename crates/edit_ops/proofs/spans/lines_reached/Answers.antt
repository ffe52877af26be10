use Rattle.std.proofs.Common.{ℕ, List, map, ap₂, ◌∙◌, subst}
use Rattle.std.specs.Prelude.{◌≡◌, IfOk}
use Rattle.selection_set.specs.declared.sel.Sel.{Sel}
use Rattle.edit_ops.specs.SpanWalk.{span_at, walked}
use Rattle.edit_ops.proofs.SpanLemmas.{walk-reaches}
use Rattle.edit_ops.proofs.spans.lines_reached.Goals as goal

pub returns-clause-reached : goal.returns-clause-reached
returns-clause-reached c =
    subst (λ (ns : List ℕ). IfOk c.walked.result (λ v. v.items ≡ ns))
    (ap₂ (λ (count : ℕ) (sels : List Sel). walked count 0 (map (span_at c.args.reach) sels)) c.reachable.ensures.value c.as_slice.ensures.value ∙ walk-reaches c.args.lines.now c.args.reach c.args.sels.now c.requires) c.walked.ensures
