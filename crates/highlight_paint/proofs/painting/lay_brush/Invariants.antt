use Rattle.highlight_paint.specs.Overs.{brush_overs}
use Rattle.highlight_paint.specs.Painting.{AreLaidUpto}
use Rattle.highlight_paint.proofs.painting.lay_brush.Given as goal

abbrev pub invariant-loop-k : goal.invariant-loop-k
invariant-loop-k l = AreLaidUpto l.k (brush_overs l.brush) l.part.lines.now l.part.top l.fn.grounds.items l.grounds.items
