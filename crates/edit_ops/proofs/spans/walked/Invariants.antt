use Rattle.std.proofs.Common.{◌≡◌, ◌++◌, drop, map}
use Rattle.edit_ops.specs.SpanWalk.{span_at, walked}
use Rattle.edit_ops.proofs.spans.walked.Given as goal

abbrev pub invariant-loop-sel : goal.invariant-loop-sel
invariant-loop-sel l = l.numbers.items ++ walked l.count l.next (map (span_at l.reach) (drop l.sel-index l.sels)) ≡ walked l.count 0 (map (span_at l.reach) l.sels)
