use Rattle.std.proofs.Common.{◌≡◌, get_or, rules, arith, sym, ◌∙◌}
use Rattle.std.proofs.lemmas.List.{get_or_read}
use Rattle.line_buffer.proofs.CutLemmas.{cut_step, none_more}
use Rattle.line_buffer.proofs.cuts.cut.Goals as goal
use Rattle.line_buffer.proofs.cuts.cut.Goals.{then-c-eq10+in_ok-of_chars+in_ok-push, else-c-eq10}

pub loop-i-preserved : goal.loop-i-preserved
loop-i-preserved c =
    let here : c.index-text-i.result ≡ get_or c.args.text.now c.loop-i.i 0 = get_or_read c.args.text.now c.loop-i.i c.index-text-i.result c.loop-i-test.true c.index-text-i.is 0 in
    elim c.if-c-eq10.branch [
      | then-c-eq10+in_ok-of_chars+in_ok-push w ↦ record {
        behind = omega arith;
        lines = cut_step c.args.text.now c.loop-i.lines.items _ w.in_ok-of_chars.field-0 c.loop-i.start _ c.loop-i.i c.loop-i.invariant.behind c.loop-i-test.true (sym here ∙ w.if-c-eq10.true) c.loop-i.invariant.none c.loop-i.invariant.lines (search rules) w.in_ok-of_chars.ensures w.start-is;
        none = λ k h lt. absurd (omega arith);
      }
      | else-c-eq10 w ↦ record {
        behind = omega arith;
        lines = search rules;
        none = λ k h lt. none_more c.args.text.now c.loop-i.start c.loop-i.i (λ e. w.if-c-eq10.false (here ∙ e)) c.loop-i.invariant.none k (omega arith) lt;
      }
    ]
