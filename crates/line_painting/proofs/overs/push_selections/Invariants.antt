-- The selections before the k-th are laid.
use Rattle.std.proofs.Common.{length}
use Rattle.text_model.specs.Texts.{nth_line}
use Rattle.line_painting.specs.Painting.{line_start, AreSelectionsLaid}
use Rattle.line_painting.proofs.OverLemmas.{first_of}
use Rattle.line_painting.proofs.overs.push_selections.Given as goal

abbrev pub invariant-loop-k : goal.invariant-loop-k
invariant-loop-k l = AreSelectionsLaid l.scene.palette.now (first_of l.scene.lines.now l.scene.sels.now l.k) (line_start l.scene.lines.now l.n) (length (nth_line l.scene.lines.now l.n)) l.fn.overs.items l.overs.items
