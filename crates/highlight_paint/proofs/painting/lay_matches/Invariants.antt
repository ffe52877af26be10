use Rattle.highlight_paint.specs.Overs.{matches_over}
use Rattle.highlight_paint.specs.Painting.{AreLaidUpto}
use Rattle.highlight_paint.proofs.painting.lay_matches.Given as goal

abbrev pub invariant-loop-k : goal.invariant-loop-k
invariant-loop-k g l = AreLaidUpto l.k (matches_over l.faces (g.P.Pattern.source l.pattern) l.groups) l.part.lines.now l.part.top l.fn.grounds.items l.grounds.items
